-- One field is written; each other of the node, and each other node, stays.
use Rattle.std.proofs.Common.{◌≡◌, ℕ, None, refl}
use Rattle.rs_chain.specs.declared.node.Node.{Node}
use Rattle.rs_chain.specs.Nodes.{number}
use Rattle.rs_chain.proofs.NodeLemmas.{field_moves, field_keeps, links_keep}
use Rattle.rs_chain.proofs.node.set_prev.Goals as goal

pub returns : goal.returns
returns c =
    let nodes = c.args.nodes.now in
    let key : ℕ = c.args.key in
    let old : Node = c.index_mut.result.now in
    let new : Node = record old { prev = c.args.prev } in
    let was = c.index_mut.ensures.value in
    record {
      next = field_keeps nodes key old new was (λ (x : Node). x.next) 0 refl;
      prev = field_moves nodes key old new was (λ (x : Node). x.prev) 0;
      first = field_keeps nodes key old new was (λ (x : Node). x.first) None refl;
      number = field_keeps nodes key old new was number 0 refl;
      rest = links_keep nodes key old new was refl;
    }
