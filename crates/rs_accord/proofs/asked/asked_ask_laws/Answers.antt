use Rattle.rs_accord.proofs.AskedLemmas.{asked_is}
use Rattle.rs_accord.proofs.asked.asked_ask_laws.Goals as goal

pub returns : goal.returns
returns c = record { desk = asked_is c.text_laws.ensures.target }
