use Rattle.rs_exchange.proofs.AskedLemmas.{asked_of_user, asked_short, asked_store, asked_allowed_only}
use Rattle.rs_exchange.proofs.laws.asked_laws.Goals as goal

pub returns : goal.returns
returns c = record { user = asked_of_user; short = asked_short; store = asked_store; allowed = asked_allowed_only }
