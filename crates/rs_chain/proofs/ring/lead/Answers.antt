-- A link, and the folder's first.
use Rattle.std.proofs.Common.{◌≡◌, Some, ◌∙◌}
use Rattle.rs_chain.specs.Nodes.{node_next, node_prev, node_first, node_number}
use Rattle.rs_chain.proofs.NodeLemmas.{links_live, links_same}
use Rattle.rs_chain.proofs.MoveLemmas.{moves_keeps, keeps_moves, keeps_keeps}
use Rattle.rs_chain.proofs.ring.lead.Goals as goal

pub set_first-requires : goal.set_first-requires
set_first-requires c = record { there = links_live c.args.nodes.now c.link.new.nodes c.link.ensures.rest c.args.folder ∙ c.requires.folder }

pub returns : goal.returns
returns c =
    let s0 = c.args.nodes.now in
    let s1 = c.link.new.nodes in
    let s2 = c.set_first.new.nodes in
    record {
      next = moves_keeps (node_next s0) (node_next s1) (node_next s2) c.args.child c.args.next c.link.ensures.next c.set_first.ensures.next;
      prev = moves_keeps (node_prev s0) (node_prev s1) (node_prev s2) c.args.next c.args.child c.link.ensures.prev c.set_first.ensures.prev;
      first = keeps_moves (node_first s0) (node_first s1) (node_first s2) c.args.folder (Some c.args.child) c.link.ensures.first c.set_first.ensures.first;
      number = keeps_keeps (node_number s0) (node_number s1) (node_number s2) c.link.ensures.number c.set_first.ensures.number;
      rest = links_same s0 s1 s2 c.link.ensures.rest c.set_first.ensures.rest;
    }
