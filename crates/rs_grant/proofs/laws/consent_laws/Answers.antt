use Rattle.rs_grant.proofs.AskBack.{consent_back}
use Rattle.rs_grant.proofs.laws.consent_laws.Goals as goal

pub returns : goal.returns
returns c = record { back = consent_back }
