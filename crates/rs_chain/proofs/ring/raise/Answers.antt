-- Taken out and put first.
use Rattle.std.proofs.Common.{◌≡◌, ℕ, List, ◌∙◌}
use Rattle.slab.specs.Slab.{ContainsKey}
use Rattle.rs_chain.specs.Nodes.{node_number, node_next, node_prev, node_first}
use Rattle.rs_chain.specs.Rings.{In, AreRings, taken_out}
use Rattle.rs_chain.proofs.NodeLemmas.{links_live, links_same}
use Rattle.rs_chain.proofs.MoveLemmas.{keeps_keeps}
use Rattle.rs_chain.proofs.LinkLemmas.{members_live, parent_live, raised, raised_fresh, out_in}
use Rattle.rs_chain.proofs.ring.raise.Goals as goal

pub take_out-requires : goal.take_out-requires
take_out-requires c =
    let linked = c.requires.linked in
    record {
      ring = (linked.0, linked.1.rings, (linked.1.members c.args.folder c.args.child).1 c.requires.child, members_live c.args.nodes.now linked.0 linked.1 c.args.folder);
      folder = linked.1.held c.args.folder c.args.child c.requires.child;
    }

pub put_first-requires : goal.put_first-requires
put_first-requires c =
    let linked = c.requires.linked in
    let s0 = c.args.nodes.now in
    let s1 = c.take_out.new.nodes in
    let f : ℕ = c.args.folder in
    let x : ℕ = c.args.child in
    let there : In x (linked.0 f) = (linked.1.members f x).1 c.requires.child in
    let each : (k : ℕ) → In k (taken_out f x linked.0 f) → ContainsKey s1 k = λ k within.
    links_live s0 s1 c.take_out.ensures.rest k ∙ members_live s0 linked.0 linked.1 f k (out_in linked.0 f x f k within) in
    record {
      ring = (taken_out f x linked.0, c.take_out.ensures.rings linked.0 linked.1.rings there, each);
      folder = links_live s0 s1 c.take_out.ensures.rest f ∙ linked.1.held f x c.requires.child;
      child = links_live s0 s1 c.take_out.ensures.rest x ∙ parent_live s0 f x c.requires.child;
    }

pub returns : goal.returns
returns c =
    let s0 = c.args.nodes.now in
    let s1 = c.take_out.new.nodes in
    let s2 = c.put_first.new.nodes in
    let f : ℕ = c.args.folder in
    let x : ℕ = c.args.child in
    let same = links_same s0 s1 s2 c.take_out.ensures.rest c.put_first.ensures.rest in
    record {
      linked = λ order old.
          raised s0 s2 order f x old c.requires.child same
          (c.put_first.ensures.rings (taken_out f x order) (c.take_out.ensures.rings order old.rings ((old.members f x).1 c.requires.child))
          (raised_fresh s0 s2 order f x old c.requires.child same));
      number = keeps_keeps (node_number s0) (node_number s1) (node_number s2) c.take_out.ensures.number c.put_first.ensures.number;
      rest = same;
    }
