-- A document is where the way ends at its node.
use Rattle.std.proofs.Common.{◌≡◌, ℕ, Option, None, sym, ap, ◌∙◌}
use Rattle.std.specs.Option.{option_map_or}
use Rattle.rs_rules.specs.declared.doc.Doc.{Doc}
use Rattle.rs_chain.specs.declared.node.Node.{Node}
use Rattle.rs_chain.specs.Nodes.{node_doc}
use Rattle.rs_chain.specs.Walks.{onwards}
use Rattle.rs_chain.proofs.looks.doc_at.Goals as goal

pub returns-in-None : goal.returns-in-None
returns-in-None c = record {
  found = λ w shows.
      ap (λ (o : Option ℕ). onwards o (node_doc c.args.nodes.now)) c.in-None.ensures.key ∙ sym (shows.documents c.args.path.now);
}

pub returns-in-Some : goal.returns-in-Some
returns-in-Some c = record {
  found = λ w shows.
      c.as_ref.ensures.value ∙ sym (ap (λ o. option_map_or (λ (x : Node). x.doc) o None) c.index.ensures)
      ∙ ap (λ (o : Option ℕ). onwards o (node_doc c.args.nodes.now)) c.in-Some.ensures.key ∙ sym (shows.documents c.args.path.now);
}
