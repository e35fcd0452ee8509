use Rattle.std.proofs.Common.{sym}
use Rattle.rs_path.specs.PathOrder.{same_path-Decides, path_cmp_total, path_ties}
use Rattle.rs_path.proofs.OrderLemmas.{slice_cmp-plain_text}
use Rattle.rs_path.proofs.laws.order_laws.Goals as goal

pub returns : goal.returns
returns c = record {
  total = path_cmp_total;
  ties = path_ties;
  same = λ p q. same_path-Decides p q;
  texts = λ p q is_p is_q. sym (slice_cmp-plain_text p q is_p is_q);
}
