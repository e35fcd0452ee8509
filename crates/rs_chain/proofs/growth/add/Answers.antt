-- Put into the slab, among the kids and into the ring.
use Rattle.std.proofs.Common.{◌≡◌, ℕ, List, Option, Some, refl, sym, ap, ◌∙◌}
use Rattle.slab.specs.Slab.{get, ContainsKey}
use Rattle.rs_chain.specs.declared.node.Node.{Node}
use Rattle.rs_chain.specs.Nodes.{node_kids}
use Rattle.rs_chain.specs.Rings.{In}
use Rattle.rs_chain.specs.Leaves.{HasLeaf}
use Rattle.rs_chain.proofs.InLemmas.{kid_parent}
use Rattle.rs_chain.proofs.LinkLemmas.{parent_live, members_live}
use Rattle.rs_chain.proofs.OneMoreLemmas.{gone_live, more_listed, more_linked}
use Rattle.rs_chain.proofs.AddLemmas.{put_live, put_rings, put_lacks, added, added_sorted}
use Rattle.rs_chain.proofs.growth.add.Goals as goal

pub put_first-requires-clause-ring : goal.put_first-requires-clause-ring
put_first-requires-clause-ring c =
    let s0 = c.args.nodes.now in
    let s1 = c.insert_reserved-key.new.self in
    let s2 = c.put_kid.new.nodes in
    let f : ℕ = c.args.folder in
    let k : ℕ = c.insert_reserved-key.result in
    let place : ℕ = c.vacancy-place.result in
    let x : Node = record c.args.node { parent = Some c.args.folder } in
    let none = c.insert_reserved-key.ensures.was_vacant in
    let ins = c.insert_reserved-key.ensures.updates in
    let sound = c.requires.sound in (
      sound.1,
      put_rings s0 s1 s2 f k place x none c.requires.folder ins c.put_kid.ensures.kids sound.1 sound.3 c.requires.alone,
      λ j there. put_live s0 s1 s2 f k place x none c.requires.folder ins c.put_kid.ensures.kids j (members_live s0 sound.1 sound.3 f j there),
    )

pub returns-clause-leaf : goal.returns-clause-leaf
returns-clause-leaf c =
    let s0 = c.args.nodes.now in
    let s1 = c.insert_reserved-key.new.self in
    let s2 = c.put_kid.new.nodes in
    let f : ℕ = c.args.folder in
    let k : ℕ = c.insert_reserved-key.result in
    let place : ℕ = c.vacancy-place.result in
    let x : Node = record c.args.node { parent = Some c.args.folder } in
    let none = c.insert_reserved-key.ensures.was_vacant in
    let ins = c.insert_reserved-key.ensures.updates in
    let sound = c.requires.sound in
    let s3 = c.put_first.new.nodes in
    let fresh : (g : ℕ) → In k (node_kids s0 g) → ⊥ = λ g there. gone_live s0 k k none (parent_live s0 g k (kid_parent sound.2 g k there)) refl in
    let leaf : HasLeaf s0 s3 f k x =
    added s0 s1 s2 f k place x none c.requires.folder ins c.put_kid.ensures.kids s3 c.put_first.ensures.rest c.insert_reserved-key.ensures.len c.insert_reserved-key.ensures.capacity refl c.requires.bare fresh in
    leaf

pub returns-clause-listed : goal.returns-clause-listed
returns-clause-listed c root old =
    let s0 = c.args.nodes.now in
    let s1 = c.insert_reserved-key.new.self in
    let s2 = c.put_kid.new.nodes in
    let f : ℕ = c.args.folder in
    let k : ℕ = c.insert_reserved-key.result in
    let place : ℕ = c.vacancy-place.result in
    let x : Node = record c.args.node { parent = Some c.args.folder } in
    let none = c.insert_reserved-key.ensures.was_vacant in
    let ins = c.insert_reserved-key.ensures.updates in
    let sound = c.requires.sound in
    let s3 = c.put_first.new.nodes in
    let fresh : (g : ℕ) → In k (node_kids s0 g) → ⊥ = λ g there. gone_live s0 k k none (parent_live s0 g k (kid_parent sound.2 g k there)) refl in
    let leaf : HasLeaf s0 s3 f k x =
    added s0 s1 s2 f k place x none c.requires.folder ins c.put_kid.ensures.kids s3 c.put_first.ensures.rest c.insert_reserved-key.ensures.len c.insert_reserved-key.ensures.capacity refl c.requires.bare fresh in
    more_listed s0 s3 f k x leaf root old
    (added_sorted s0 s1 s2 f k place x none c.requires.folder ins c.put_kid.ensures.kids s3 c.put_first.ensures.rest c.insert_reserved-key.ensures.len c.insert_reserved-key.ensures.capacity refl
    c.requires.bare fresh (old.sorted f) c.vacancy-place.ensures.place)
    c.requires.content c.requires.holder

pub returns-clause-linked : goal.returns-clause-linked
returns-clause-linked c order old =
    let s0 = c.args.nodes.now in
    let s1 = c.insert_reserved-key.new.self in
    let s2 = c.put_kid.new.nodes in
    let f : ℕ = c.args.folder in
    let k : ℕ = c.insert_reserved-key.result in
    let place : ℕ = c.vacancy-place.result in
    let x : Node = record c.args.node { parent = Some c.args.folder } in
    let none = c.insert_reserved-key.ensures.was_vacant in
    let ins = c.insert_reserved-key.ensures.updates in
    let sound = c.requires.sound in
    let s3 = c.put_first.new.nodes in
    let fresh : (g : ℕ) → In k (node_kids s0 g) → ⊥ = λ g there. gone_live s0 k k none (parent_live s0 g k (kid_parent sound.2 g k there)) refl in
    let leaf : HasLeaf s0 s3 f k x =
    added s0 s1 s2 f k place x none c.requires.folder ins c.put_kid.ensures.kids s3 c.put_first.ensures.rest c.insert_reserved-key.ensures.len c.insert_reserved-key.ensures.capacity refl c.requires.bare fresh in
    more_linked s0 s3 f k x leaf order old
    (c.put_first.ensures.rings order
    (put_rings s0 s1 s2 f k place x none c.requires.folder ins c.put_kid.ensures.kids order old c.requires.alone)
    (put_lacks s0 s1 s2 f k place x none c.requires.folder ins c.put_kid.ensures.kids order old))
