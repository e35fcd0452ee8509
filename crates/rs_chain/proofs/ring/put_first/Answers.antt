-- Whether the folder has a ring.
use Rattle.std.proofs.Common.{◌≡◌, ℕ, Some, None, sym, ◌∙◌}
use Rattle.rs_chain.specs.Nodes.{node_next, node_prev, node_first}
use Rattle.rs_chain.proofs.OrderLemmas.{rings_alone}
use Rattle.rs_chain.proofs.ring.put_first.Goals as goal

pub join-requires-clause-first : goal.join-requires-clause-first
join-requires-clause-first c = sym c.in-Some.ensures.first

pub returns-in-None-clause-rings : goal.returns-in-None-clause-rings
returns-in-None-clause-rings c order old fresh =
    let s0 = c.args.nodes.now in
    let s1 = c.lead.new.nodes in
    rings_alone (node_next s0) (node_prev s0) (node_next s1) (node_prev s1) (node_first s0) (node_first s1) order c.args.folder c.args.child old fresh (sym c.in-None.ensures.first)
    c.lead.ensures.next c.lead.ensures.prev c.lead.ensures.first
