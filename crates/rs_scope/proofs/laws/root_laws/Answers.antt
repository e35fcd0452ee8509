use Rattle.rs_scope.proofs.RootLemmas.{roots_hold, roots_are, roots_ascend}
use Rattle.rs_scope.proofs.laws.root_laws.Goals as goal

pub returns : goal.returns
returns c = record { held = roots_hold; members = roots_are; ascending = roots_ascend }
