use Rattle.std.proofs.Common.{◌≡◌, IfOk, List, sym, ap, ◌∙◌, subst}
use Rattle.rs_path.specs.declared.entry.Entry.{Entry}
use Rattle.rs_rules.specs.Contents.{Contents}
use Rattle.rs_rules.specs.Listings.{items_in}
use Rattle.rs_plain.specs.PlainTrees.{contents_in}
use Rattle.rs_plain.proofs.plain_tree.PlainTreeTree.items.Goals as goal

pub returns : goal.returns
returns c = record {
  items = λ w s.
      subst (λ (v : Contents). IfOk c.items_in.result (λ (items : List Entry). items ≡ items_in v c.args.folder.now))
      (ap (λ ds. contents_in ds c.as_slice-2.result.now) c.as_slice.ensures.value
      ∙ ap (contents_in c.args.self.now.docs.items) c.as_slice-2.ensures.value ∙ sym s.0.same)
      c.items_in.ensures.items;
}
