use Rattle.std.proofs.Common.{sym, ap, ◌∙◌}
use Rattle.rs_rules.specs.Documents.{doc_in}
use Rattle.rs_rules.specs.Contents.{Contents}
use Rattle.rs_plain.proofs.plain_tree.PlainTreeTree.find.Goals as goal

pub returns : goal.returns
returns c = record {
  found = λ w s.
      c.doc_in.ensures.found ∙ ap (doc_in c.args.path.now) c.as_slice.ensures.value
      ∙ sym (ap (λ (v : Contents). doc_in c.args.path.now v.docs) s.0.same);
}
