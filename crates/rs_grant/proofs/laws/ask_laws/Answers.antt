use Rattle.rs_grant.proofs.AskBack.{ask_back}
use Rattle.rs_grant.proofs.laws.ask_laws.Goals as goal

pub returns : goal.returns
returns c = record { back = ask_back }
