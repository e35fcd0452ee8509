-- A document's version is in its content, a folder's beside it.
use Rattle.std.proofs.Common.{◌≡◌, ℕ, Option, Some, None, refl, ap}
use Rattle.std.specs.Option.{option_map, option_map_or}
use Rattle.slab.specs.Slab.{with_value}
use Rattle.rs_rules.specs.declared.doc.Doc.{Doc}
use Rattle.rs_chain.specs.declared.node.Node.{Node}
use Rattle.rs_chain.specs.Nodes.{number, node_number, undated, unnumbered}
use Rattle.rs_chain.proofs.NodeLemmas.{field_moves, field_keeps, view_keeps}
use Rattle.rs_chain.proofs.MoveLemmas.{moves_at}
use Rattle.rs_chain.proofs.node.set_number.Goals as goal

pub returns-in-Some : goal.returns-in-Some
returns-in-Some c =
    let nodes = c.args.nodes.now in
    let key : ℕ = c.args.key in
    let old : Node = c.index_mut-node.result.now in
    let was = c.index_mut-node.ensures.value in
    let doc : Doc = c.in-Some.doc in
    let new : Node = record old { doc = Some (record doc { version = c.args.number }) } in
    record {
      next = field_keeps nodes key old new was (λ (x : Node). x.next) 0 refl;
      prev = field_keeps nodes key old new was (λ (x : Node). x.prev) 0 refl;
      first = field_keeps nodes key old new was (λ (x : Node). x.first) None refl;
      number = field_moves nodes key old new was number 0;
      rest = view_keeps nodes key old new was unnumbered
          (ap (λ o. record old { doc = option_map undated o; version = 0; first = None; next = 0; prev = 0 }) c.in-Some.is);
    }

pub returns-in-None : goal.returns-in-None
returns-in-None c =
    let nodes = c.args.nodes.now in
    let key : ℕ = c.args.key in
    let old : Node = c.index_mut-node.result.now in
    let was = c.index_mut-node.ensures.value in
    let new : Node = record old { version = c.args.number } in
    record {
      next = field_keeps nodes key old new was (λ (x : Node). x.next) 0 refl;
      prev = field_keeps nodes key old new was (λ (x : Node). x.prev) 0 refl;
      first = field_keeps nodes key old new was (λ (x : Node). x.first) None refl;
      number = moves_at (node_number nodes) (node_number (with_value nodes key new)) key key (number new) c.args.number refl
          (ap (λ o. option_map_or (λ (d : Doc). d.version) o c.args.number) c.in-None.is) (field_moves nodes key old new was number 0);
      rest = view_keeps nodes key old new was unnumbered refl;
    }
