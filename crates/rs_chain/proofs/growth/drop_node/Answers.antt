-- Out of the ring, of the kids and of the slab.
use Rattle.std.proofs.Common.{◌≡◌, ℕ, true, List, [], Option, Some, None, is_some, refl, sym, ap, ◌∙◌, subst}
use Rattle.slab.specs.Slab.{get, ContainsKey}
use Rattle.rs_chain.specs.declared.node.Node.{Node}
use Rattle.rs_chain.specs.Nodes.{node_kids, node_parent}
use Rattle.rs_chain.specs.Rings.{In}
use Rattle.rs_chain.specs.Leaves.{HasLeaf}
use Rattle.rs_chain.proofs.InLemmas.{parent_kid}
use Rattle.rs_chain.proofs.LinkLemmas.{members_live}
use Rattle.rs_chain.proofs.OneMoreLemmas.{less_listed, less_linked}
use Rattle.rs_chain.proofs.DropLemmas.{dropped, dropped_sorted, out_lacks, out_rings}
use Rattle.rs_chain.proofs.growth.drop_node.Goals as goal

some_of : (o : Option Node) → is_some o ≡ true → (x : Node) × (o ≡ Some x)
some_of None there = absurd (cc)
some_of (Some x) there = (x, refl)

no_root : (root k f : ℕ) (parent : ℕ → Option ℕ) → parent root ≡ None → parent k ≡ Some f → root ≡ k → ⊥
no_root root k f parent none some same = let clash : None ≡ Some f = sym none ∙ ap parent same ∙ some in absurd (cc)

pub take_out-requires-clause-ring : goal.take_out-requires-clause-ring
take_out-requires-clause-ring c =
    let s0 = c.args.nodes.now in
    let f : ℕ = c.in-Some.folder in
    let k : ℕ = c.args.key in
    let parent : node_parent s0 k ≡ Some f = sym c.in-Some.ensures.parent in
    let sound = c.requires.sound in
    (sound.1, sound.3.rings, (sound.3.members f k).1 parent, members_live s0 sound.1 sound.3 f)

pub returns-clause-leaf : goal.returns-clause-leaf
returns-clause-leaf c =
    let s0 = c.args.nodes.now in
    let f : ℕ = c.in-Some.folder in
    let k : ℕ = c.args.key in
    let parent : node_parent s0 k ≡ Some f = sym c.in-Some.ensures.parent in
    let sound = c.requires.sound in
    let s1 = c.take_out.new.nodes in
    let s2 = c.take_kid.new.nodes in
    let s3 = c.remove.new.self in
    let place : ℕ = c.kid_place-place.result in
    let node = some_of (get s0 k) c.requires.there in
    let leaf : HasLeaf s3 s0 f k node.0 =
    dropped s0 s1 s2 s3 f k place node.0 node.1 parent c.requires.bare c.take_out.ensures.rest c.take_kid.ensures.kids c.remove.ensures.updates c.kid_place-place.ensures.within
    c.kid_place-place.ensures.place c.remove.ensures.len c.remove.ensures.capacity sound.0 sound.2 sound.1 sound.3 in
    (node.0, leaf)

pub returns-clause-listed : goal.returns-clause-listed
returns-clause-listed c root old =
    let s0 = c.args.nodes.now in
    let f : ℕ = c.in-Some.folder in
    let k : ℕ = c.args.key in
    let parent : node_parent s0 k ≡ Some f = sym c.in-Some.ensures.parent in
    let sound = c.requires.sound in
    let s1 = c.take_out.new.nodes in
    let s2 = c.take_kid.new.nodes in
    let s3 = c.remove.new.self in
    let place : ℕ = c.kid_place-place.result in
    let node = some_of (get s0 k) c.requires.there in
    let leaf : HasLeaf s3 s0 f k node.0 =
    dropped s0 s1 s2 s3 f k place node.0 node.1 parent c.requires.bare c.take_out.ensures.rest c.take_kid.ensures.kids c.remove.ensures.updates c.kid_place-place.ensures.within
    c.kid_place-place.ensures.place c.remove.ensures.len c.remove.ensures.capacity sound.0 sound.2 sound.1 sound.3 in
    less_listed s3 s0 f k node.0 leaf root old
    (dropped_sorted s0 s1 s2 s3 f k place node.0 node.1 parent c.requires.bare c.take_out.ensures.rest c.take_kid.ensures.kids c.remove.ensures.updates c.kid_place-place.ensures.within
    c.kid_place-place.ensures.place c.remove.ensures.len c.remove.ensures.capacity root old)
    (no_root root k f (node_parent s0) old.root_top parent)

pub returns-clause-linked : goal.returns-clause-linked
returns-clause-linked c order old =
    let s0 = c.args.nodes.now in
    let f : ℕ = c.in-Some.folder in
    let k : ℕ = c.args.key in
    let parent : node_parent s0 k ≡ Some f = sym c.in-Some.ensures.parent in
    let sound = c.requires.sound in
    let s1 = c.take_out.new.nodes in
    let s2 = c.take_kid.new.nodes in
    let s3 = c.remove.new.self in
    let place : ℕ = c.kid_place-place.result in
    let node = some_of (get s0 k) c.requires.there in
    let leaf : HasLeaf s3 s0 f k node.0 =
    dropped s0 s1 s2 s3 f k place node.0 node.1 parent c.requires.bare c.take_out.ensures.rest c.take_kid.ensures.kids c.remove.ensures.updates c.kid_place-place.ensures.within
    c.kid_place-place.ensures.place c.remove.ensures.len c.remove.ensures.capacity sound.0 sound.2 sound.1 sound.3 in
    let rings = c.take_out.ensures.rings order old.rings ((old.members f k).1 parent) in
    let kids : (j : ℕ) → node_parent s0 j ≡ Some k → ⊥ = λ j is. subst (λ (ks : List ℕ). In j ks) c.requires.bare (parent_kid sound.2 k j is) in
    less_linked s3 s0 f k node.0 leaf order old
    (out_rings s0 s1 s2 s3 f k place node.0 node.1 parent c.requires.bare c.take_out.ensures.rest c.take_kid.ensures.kids c.remove.ensures.updates c.kid_place-place.ensures.within
    c.kid_place-place.ensures.place c.remove.ensures.len c.remove.ensures.capacity order old rings kids)
    (out_lacks s0 s1 s2 s3 f k place node.0 node.1 parent c.requires.bare c.take_out.ensures.rest c.take_kid.ensures.kids c.remove.ensures.updates c.kid_place-place.ensures.within
    c.kid_place-place.ensures.place c.remove.ensures.len c.remove.ensures.capacity order old rings)
    kids
