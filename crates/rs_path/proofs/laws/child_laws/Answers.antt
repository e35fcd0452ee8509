use Rattle.rs_path.proofs.ChildLemmas.{parent_of-child_at, child_at-parent_of, is_below-child_at, child_towards-child_at, is_some-child_towards, child_towards-leads}
use Rattle.rs_path.proofs.laws.child_laws.Goals as goal

pub returns : goal.returns
returns c = record {
  parent = parent_of-child_at;
  child = child_at-parent_of;
  below = is_below-child_at;
  itself = child_towards-child_at;
  towards = is_some-child_towards;
  leads = child_towards-leads;
}
