use Rattle.rs_rules.proofs.PointLaws.{never_returns}
use Rattle.rs_rules.proofs.laws.never_returns_law.Goals as goal

pub returns : goal.returns
returns c = record { passed = never_returns }
