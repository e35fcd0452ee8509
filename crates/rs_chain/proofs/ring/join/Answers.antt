-- The child stands between the last and the first.
use Rattle.std.proofs.Common.{◌≡◌, ℕ, Some, refl, sym, ◌∙◌, subst}
use Rattle.slab.specs.Slab.{ContainsKey}
use Rattle.rs_chain.specs.Nodes.{node_next, node_prev, node_first, node_number}
use Rattle.rs_chain.specs.Rings.{In}
use Rattle.rs_chain.proofs.NodeLemmas.{links_live, links_same}
use Rattle.rs_chain.proofs.MoveLemmas.{keeps_moves, keeps_keeps, moves_at}
use Rattle.rs_chain.proofs.RingLemmas.{ring_before}
use Rattle.rs_chain.proofs.OrderLemmas.{rings_with, first_there}
use Rattle.rs_chain.proofs.ring.join.Goals as goal

pub node_prev-last-requires : goal.node_prev-last-requires
node_prev-last-requires c =
    let ring = c.requires.ring in
    let s0 = c.args.nodes.now in
    record { there = ring.2 c.args.first (first_there (node_next s0) (node_prev s0) (node_first s0) ring.0 c.args.folder c.args.first ring.1 c.requires.first) }

pub link-requires : goal.link-requires
link-requires c =
    let ring = c.requires.ring in
    let s0 = c.args.nodes.now in
    let f : ℕ = c.args.folder in
    let i : ℕ = c.args.first in
    let here : In i (ring.0 f) = first_there (node_next s0) (node_prev s0) (node_first s0) ring.0 f i ring.1 c.requires.first in
    let before : ContainsKey s0 (node_prev s0 i) = ring.2 (node_prev s0 i) (ring_before (node_next s0) (node_prev s0) i (node_first s0 f) (ring.0 f) (ring.1.rings f) here) in
    record { one = subst (λ (k : ℕ). ContainsKey s0 k) (sym c.node_prev-last.ensures.prev) before; next = c.requires.child }

pub lead-requires : goal.lead-requires
lead-requires c =
    let ring = c.requires.ring in
    let s0 = c.args.nodes.now in
    let s1 = c.link.new.nodes in
    let i : ℕ = c.args.first in
    let here : ContainsKey s0 i = ring.2 i (first_there (node_next s0) (node_prev s0) (node_first s0) ring.0 c.args.folder i ring.1 c.requires.first) in
    record {
      folder = links_live s0 s1 c.link.ensures.rest c.args.folder ∙ c.requires.folder;
      child = links_live s0 s1 c.link.ensures.rest c.args.child ∙ c.requires.child;
      next = links_live s0 s1 c.link.ensures.rest i ∙ here;
    }

pub returns : goal.returns
returns c =
    let s0 = c.args.nodes.now in
    let s1 = c.link.new.nodes in
    let s2 = c.lead.new.nodes in
    let x : ℕ = c.args.child in
    let f : ℕ = c.args.folder in
    let i : ℕ = c.args.first in
    let last : ℕ = c.node_prev-last.result in
    let last_is : last ≡ node_prev s0 i = c.node_prev-last.ensures.prev in
    record {
      rings = λ order old fresh.
          rings_with (node_next s0) (node_prev s0) (node_next s1) (node_prev s1) (node_next s2) (node_prev s2) (node_first s0) (node_first s2) order f x i old fresh c.requires.first
          (moves_at (node_next s0) (node_next s1) last (node_prev s0 i) x x last_is refl c.link.ensures.next)
          (moves_at (node_prev s0) (node_prev s1) x x last (node_prev s0 i) refl last_is c.link.ensures.prev)
          c.lead.ensures.next c.lead.ensures.prev
          (keeps_moves (node_first s0) (node_first s1) (node_first s2) f (Some x) c.link.ensures.first c.lead.ensures.first);
      number = keeps_keeps (node_number s0) (node_number s1) (node_number s2) c.link.ensures.number c.lead.ensures.number;
      rest = links_same s0 s1 s2 c.link.ensures.rest c.lead.ensures.rest;
    }
