use Rattle.rs_path.proofs.BelowLemmas.{ancestors_of-any, ancestors_of-ancestor, ancestors_of-parent, length-ancestors_of}
use Rattle.rs_path.proofs.laws.ancestor_laws.Goals as goal

pub returns : goal.returns
returns c = record {
  members = ancestors_of-any;
  upwards = ancestors_of-ancestor;
  of_parent = ancestors_of-parent;
  count = length-ancestors_of;
}
