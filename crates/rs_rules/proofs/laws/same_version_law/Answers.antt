use Rattle.rs_rules.proofs.PointLaws.{same_below}
use Rattle.rs_rules.proofs.laws.same_version_law.Goals as goal

pub returns : goal.returns
returns c = record { below = same_below }
