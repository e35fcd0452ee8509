-- The two siblings are linked, and the folder's first is another where it was the child.
use Rattle.std.proofs.Common.{◌≡◌, ℕ, Option, refl, sym, ap, ◌∙◌, subst}
use Rattle.slab.specs.Slab.{ContainsKey}
use Rattle.rs_chain.specs.Nodes.{node_next, node_prev, node_first, node_number}
use Rattle.rs_chain.specs.Rings.{In, first_without}
use Rattle.rs_chain.proofs.NodeLemmas.{links_live, links_same}
use Rattle.rs_chain.proofs.MoveLemmas.{moves_keeps, keeps_moves, keeps_keeps, moves_at}
use Rattle.rs_chain.proofs.RingLemmas.{ring_before, ring_after}
use Rattle.rs_chain.proofs.OrderLemmas.{rings_without}
use Rattle.rs_chain.proofs.ring.take_out.Goals as goal

pub node_next-next-requires : goal.node_next-next-requires
node_next-next-requires c = let ring = c.requires.ring in record { there = ring.3 c.args.child ring.2 }

pub node_prev-prev-requires : goal.node_prev-prev-requires
node_prev-prev-requires c = let ring = c.requires.ring in record { there = ring.3 c.args.child ring.2 }

pub link-requires : goal.link-requires
link-requires c =
    let ring = c.requires.ring in
    let s0 = c.args.nodes.now in
    let x : ℕ = c.args.child in
    let f : ℕ = c.args.folder in
    let before : ContainsKey s0 (node_prev s0 x) = ring.3 (node_prev s0 x) (ring_before (node_next s0) (node_prev s0) x (node_first s0 f) (ring.0 f) (ring.1.rings f) ring.2) in
    let after : ContainsKey s0 (node_next s0 x) = ring.3 (node_next s0 x) (ring_after (node_next s0) (node_prev s0) x (node_first s0 f) (ring.0 f) (ring.1.rings f) ring.2) in
    record {
      one = subst (λ (k : ℕ). ContainsKey s0 k) (sym c.node_prev-prev.ensures.prev) before;
      next = subst (λ (k : ℕ). ContainsKey s0 k) (sym c.node_next-next.ensures.next) after;
    }

pub set_first-requires : goal.set_first-requires
set_first-requires c = record { there = links_live c.args.nodes.now c.link.new.nodes c.link.ensures.rest c.args.folder ∙ c.requires.folder }

pub returns : goal.returns
returns c =
    let s0 = c.args.nodes.now in
    let s1 = c.link.new.nodes in
    let s2 = c.set_first.new.nodes in
    let x : ℕ = c.args.child in
    let f : ℕ = c.args.folder in
    let next : ℕ = c.node_next-next.result in
    let prev : ℕ = c.node_prev-prev.result in
    let first : Option ℕ = c.first_without.result in
    let next_is : next ≡ node_next s0 x = c.node_next-next.ensures.next in
    let prev_is : prev ≡ node_prev s0 x = c.node_prev-prev.ensures.prev in
    let first_is : first ≡ first_without (node_first s0 f) x (node_next s0 x) =
    c.first_without.ensures.first ∙ ap (λ o. first_without o x next) c.node_first-first.ensures.first ∙ ap (first_without (node_first s0 f) x) next_is in
    record {
      rings = λ order old there.
          rings_without (node_next s0) (node_prev s0) (node_next s2) (node_prev s2) (node_first s0) (node_first s2) order f x old there
          (moves_keeps (node_next s0) (node_next s1) (node_next s2) (node_prev s0 x) (node_next s0 x)
          (moves_at (node_next s0) (node_next s1) prev (node_prev s0 x) next (node_next s0 x) prev_is next_is c.link.ensures.next) c.set_first.ensures.next)
          (moves_keeps (node_prev s0) (node_prev s1) (node_prev s2) (node_next s0 x) (node_prev s0 x)
          (moves_at (node_prev s0) (node_prev s1) next (node_next s0 x) prev (node_prev s0 x) next_is prev_is c.link.ensures.prev) c.set_first.ensures.prev)
          (keeps_moves (node_first s0) (node_first s1) (node_first s2) f (first_without (node_first s0 f) x (node_next s0 x)) c.link.ensures.first
          (moves_at (node_first s1) (node_first s2) f f first (first_without (node_first s0 f) x (node_next s0 x)) refl first_is c.set_first.ensures.first));
      number = keeps_keeps (node_number s0) (node_number s1) (node_number s2) c.link.ensures.number c.set_first.ensures.number;
      rest = links_same s0 s1 s2 c.link.ensures.rest c.set_first.ensures.rest;
    }
