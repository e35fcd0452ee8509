use Rattle.std.proofs.Common.{sym, ap, ◌∙◌}
use Rattle.rs_rules.specs.Clashes.{full_in}
use Rattle.rs_rules.specs.Contents.{Contents}
use Rattle.rs_rules.specs.Sound.{are_distinct}
use Rattle.rs_plain.proofs.plain_tree.PlainTreeTree.full.Goals as goal

pub returns : goal.returns
returns c = record {
  full = λ w s.
      c.full_in.ensures.full (ap are_distinct c.as_slice.ensures.value ∙ s.0.distinct) ∙ ap (λ ds. full_in ds c.args.path.now) c.as_slice.ensures.value
      ∙ sym (ap (λ (v : Contents). full_in v.docs c.args.path.now) s.0.same);
}
