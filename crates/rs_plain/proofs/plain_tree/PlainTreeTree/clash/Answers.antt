use Rattle.std.proofs.Common.{sym, ap, ◌∙◌}
use Rattle.rs_rules.specs.Clashes.{clash_in}
use Rattle.rs_rules.specs.Contents.{Contents}
use Rattle.rs_plain.proofs.plain_tree.PlainTreeTree.clash.Goals as goal

pub returns : goal.returns
returns c = record {
  clash = λ w s.
      c.clash_in.ensures.clash ∙ ap (λ ds. clash_in ds c.args.path.now) c.as_slice.ensures.value
      ∙ sym (ap (λ (v : Contents). clash_in v.docs c.args.path.now) s.0.same);
}
