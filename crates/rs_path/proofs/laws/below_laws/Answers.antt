use Rattle.rs_path.proofs.BelowLemmas.{is_below-trans, is_below-itself, is_below-root, one_below}
use Rattle.rs_path.proofs.laws.below_laws.Goals as goal

pub returns : goal.returns
returns c = record { transitive = is_below-trans; irreflexive = is_below-itself; root = is_below-root; one_above = one_below }
