use Rattle.std.proofs.Common.{sym}
use Rattle.rs_path.specs.ChildOrder.{same_child-Decides, child_cmp_total, child_ties}
use Rattle.rs_path.proofs.KeyLemmas.{slice_cmp-key_of}
use Rattle.rs_path.proofs.laws.child_order_laws.Goals as goal

pub returns : goal.returns
returns c = record {
  total = child_cmp_total;
  ties = child_ties;
  same = λ p q. same_child-Decides p q;
  keys = λ p q is_p is_q. sym (slice_cmp-key_of p q is_p is_q);
}
