use Rattle.rs_rules.proofs.VersionLaws.{version_put, version_remove}
use Rattle.rs_rules.proofs.laws.version_law.Goals as goal

pub returns : goal.returns
returns c = record { put = version_put; remove = version_remove }
