-- Raised, and then numbered.
use Rattle.std.proofs.Common.{◌≡◌, ◌∙◌}
use Rattle.slab.specs.Slab.{ContainsKey}
use Rattle.rs_chain.specs.Nodes.{node_number}
use Rattle.rs_chain.specs.Rings.{taken_out, put_first}
use Rattle.rs_chain.proofs.NodeLemmas.{links_live, links_numbers, numbers_same}
use Rattle.rs_chain.proofs.MoveLemmas.{keeps_moves}
use Rattle.rs_chain.proofs.ClimbLemmas.{linked_kept}
use Rattle.rs_chain.proofs.climb.lift.Goals as goal

pub visit-requires : goal.visit-requires
visit-requires g c =
    let linked = c.requires.linked in
    record { there = links_live c.args.nodes.now c.raise.new.nodes c.raise.ensures.rest c.args.folder ∙ linked.1.held c.args.folder c.args.child c.requires.child }

pub returns : goal.returns
returns g c =
    let s0 = c.args.nodes.now in
    let s1 = c.raise.new.nodes in
    let s2 = c.visit.new.nodes in
    record {
      linked = λ order old.
          linked_kept s1 s2 (put_first c.args.folder c.args.child (taken_out c.args.folder c.args.child order)) c.visit.ensures.next c.visit.ensures.prev c.visit.ensures.first
          c.visit.ensures.rest (c.raise.ensures.linked order old);
      number = keeps_moves (node_number s0) (node_number s1) (node_number s2) c.args.folder c.args.n c.raise.ensures.number c.visit.ensures.number;
      rest = numbers_same s0 s1 s2 (links_numbers s0 s1 c.raise.ensures.rest) c.visit.ensures.rest;
      step = c.visit.ensures.step;
    }
