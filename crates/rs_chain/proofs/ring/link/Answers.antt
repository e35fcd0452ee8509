-- One's next, and the other's one before.
use Rattle.std.proofs.Common.{◌≡◌, ◌∙◌}
use Rattle.rs_chain.specs.Nodes.{node_next, node_prev, node_first, node_number}
use Rattle.rs_chain.proofs.NodeLemmas.{links_live, links_same}
use Rattle.rs_chain.proofs.MoveLemmas.{moves_keeps, keeps_moves, keeps_keeps}
use Rattle.rs_chain.proofs.ring.link.Goals as goal

pub set_prev-requires : goal.set_prev-requires
set_prev-requires c = record { there = links_live c.args.nodes.now c.set_next.new.nodes c.set_next.ensures.rest c.args.next ∙ c.requires.next }

pub returns : goal.returns
returns c =
    let s0 = c.args.nodes.now in
    let s1 = c.set_next.new.nodes in
    let s2 = c.set_prev.new.nodes in
    record {
      next = moves_keeps (node_next s0) (node_next s1) (node_next s2) c.args.one c.args.next c.set_next.ensures.next c.set_prev.ensures.next;
      prev = keeps_moves (node_prev s0) (node_prev s1) (node_prev s2) c.args.next c.args.one c.set_next.ensures.prev c.set_prev.ensures.prev;
      first = keeps_keeps (node_first s0) (node_first s1) (node_first s2) c.set_next.ensures.first c.set_prev.ensures.first;
      number = keeps_keeps (node_number s0) (node_number s1) (node_number s2) c.set_next.ensures.number c.set_prev.ensures.number;
      rest = links_same s0 s1 s2 c.set_next.ensures.rest c.set_prev.ensures.rest;
    }
