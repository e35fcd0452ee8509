use Rattle.std.proofs.Common.{sym, ap, ◌∙◌}
use Rattle.rs_rules.specs.Contents.{Contents}
use Rattle.rs_plain.specs.PlainTrees.{version_in}
use Rattle.rs_plain.proofs.plain_tree.PlainTreeTree.version.Goals as goal

pub returns : goal.returns
returns c = record {
  version = λ w s.
      c.version_in.ensures.version
      ∙ ap (λ ds. version_in ds c.as_slice-2.result.now c.args.path.now) c.as_slice.ensures.value
      ∙ ap (λ ws. version_in c.args.self.now.docs.items ws c.args.path.now) c.as_slice-2.ensures.value
      ∙ sym (ap (λ (v : Contents). v.version c.args.path.now) s.0.same);
}
