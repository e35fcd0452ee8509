-- Each node is the next step of the way.
use Rattle.std.proofs.Common.{◌≡◌, ◌≤◌, ◌<◌, ℕ, zero, suc, ◌+◌, true, false, List, [], ◌++◌, ◌∷◌, length, Some, arith, refl, sym, ap, ◌∙◌}
use Rattle.std.proofs.lemmas.Bool.{true≢false}
use Rattle.std.proofs.lemmas.List.{nil_from_length}
use Rattle.slab.specs.Slab.{slab_len}
use Rattle.rs_chain.specs.declared.node.Node.{Node}
use Rattle.rs_chain.specs.Rings.{put_first}
use Rattle.rs_chain.proofs.GrowLemmas.{still_growing, next_node, grow_step, grown_whole}
use Rattle.rs_chain.proofs.writes.grow.Goals as goal

none_left : (len n : ℕ) → len ≡ n → (0 < len → false ≡ true) → n ≡ 0
none_left len zero is some = refl
none_left len (suc n) is some = absurd (true≢false (sym (some (omega (arith, is)))))

pub add-key-requires-clause-slots : goal.add-key-requires-clause-slots
add-key-requires-clause-slots c =
    let under = c.requires.under in
    let now = c.loop-node.nodes in
    let fresh : List Node = c.loop-node.fresh.items in
    let rest : List Node = c.pop.new.self.items in
    let node = c.in-Some.node in
    let is = c.in-Some.ensures.items in
    let growing = still_growing c.args.nodes.now now under.0 under.1 under.2 c.loop-node.key fresh rest node (c.loop-node.invariant.growing under.0 under.1 under.2 under.3 under.4 under.5) is in
    let next = next_node c.args.nodes.now now under.0 under.1 under.2 c.loop-node.key fresh rest node under.4 growing is in
    let slots = growing.under.slots in let longer = next.longer in omega (arith, slots, longer)

pub add-key-requires-clause-folder : goal.add-key-requires-clause-folder
add-key-requires-clause-folder c =
    let under = c.requires.under in
    let now = c.loop-node.nodes in
    let fresh : List Node = c.loop-node.fresh.items in
    let rest : List Node = c.pop.new.self.items in
    let node = c.in-Some.node in
    let is = c.in-Some.ensures.items in
    let growing = still_growing c.args.nodes.now now under.0 under.1 under.2 c.loop-node.key fresh rest node (c.loop-node.invariant.growing under.0 under.1 under.2 under.3 under.4 under.5) is in
    let next = next_node c.args.nodes.now now under.0 under.1 under.2 c.loop-node.key fresh rest node under.4 growing is in
    next.live

pub add-key-requires-clause-room : goal.add-key-requires-clause-room
add-key-requires-clause-room c =
    let under = c.requires.under in
    let now = c.loop-node.nodes in
    let fresh : List Node = c.loop-node.fresh.items in
    let rest : List Node = c.pop.new.self.items in
    let node = c.in-Some.node in
    let is = c.in-Some.ensures.items in
    let growing = still_growing c.args.nodes.now now under.0 under.1 under.2 c.loop-node.key fresh rest node (c.loop-node.invariant.growing under.0 under.1 under.2 under.3 under.4 under.5) is in
    let next = next_node c.args.nodes.now now under.0 under.1 under.2 c.loop-node.key fresh rest node under.4 growing is in
    growing.under.room

pub add-key-requires-clause-sound : goal.add-key-requires-clause-sound
add-key-requires-clause-sound c =
    let under = c.requires.under in
    let now = c.loop-node.nodes in
    let fresh : List Node = c.loop-node.fresh.items in
    let rest : List Node = c.pop.new.self.items in
    let node = c.in-Some.node in
    let is = c.in-Some.ensures.items in
    let growing = still_growing c.args.nodes.now now under.0 under.1 under.2 c.loop-node.key fresh rest node (c.loop-node.invariant.growing under.0 under.1 under.2 under.3 under.4 under.5) is in
    let next = next_node c.args.nodes.now now under.0 under.1 under.2 c.loop-node.key fresh rest node under.4 growing is in
    (under.0, c.loop-node.invariant.linked.0, growing.grown.listed, c.loop-node.invariant.linked.1)

pub add-key-requires-clause-holder : goal.add-key-requires-clause-holder
add-key-requires-clause-holder c =
    let under = c.requires.under in
    let now = c.loop-node.nodes in
    let fresh : List Node = c.loop-node.fresh.items in
    let rest : List Node = c.pop.new.self.items in
    let node = c.in-Some.node in
    let is = c.in-Some.ensures.items in
    let growing = still_growing c.args.nodes.now now under.0 under.1 under.2 c.loop-node.key fresh rest node (c.loop-node.invariant.growing under.0 under.1 under.2 under.3 under.4 under.5) is in
    let next = next_node c.args.nodes.now now under.0 under.1 under.2 c.loop-node.key fresh rest node under.4 growing is in
    next.holder

pub add-key-requires-clause-free : goal.add-key-requires-clause-free
add-key-requires-clause-free c =
    let under = c.requires.under in
    let now = c.loop-node.nodes in
    let fresh : List Node = c.loop-node.fresh.items in
    let rest : List Node = c.pop.new.self.items in
    let node = c.in-Some.node in
    let is = c.in-Some.ensures.items in
    let growing = still_growing c.args.nodes.now now under.0 under.1 under.2 c.loop-node.key fresh rest node (c.loop-node.invariant.growing under.0 under.1 under.2 under.3 under.4 under.5) is in
    let next = next_node c.args.nodes.now now under.0 under.1 under.2 c.loop-node.key fresh rest node under.4 growing is in
    next.free

pub add-key-requires-clause-bare : goal.add-key-requires-clause-bare
add-key-requires-clause-bare c =
    let under = c.requires.under in
    let now = c.loop-node.nodes in
    let fresh : List Node = c.loop-node.fresh.items in
    let rest : List Node = c.pop.new.self.items in
    let node = c.in-Some.node in
    let is = c.in-Some.ensures.items in
    let growing = still_growing c.args.nodes.now now under.0 under.1 under.2 c.loop-node.key fresh rest node (c.loop-node.invariant.growing under.0 under.1 under.2 under.3 under.4 under.5) is in
    let next = next_node c.args.nodes.now now under.0 under.1 under.2 c.loop-node.key fresh rest node under.4 growing is in
    next.bare

pub add-key-requires-clause-alone : goal.add-key-requires-clause-alone
add-key-requires-clause-alone c =
    let under = c.requires.under in
    let now = c.loop-node.nodes in
    let fresh : List Node = c.loop-node.fresh.items in
    let rest : List Node = c.pop.new.self.items in
    let node = c.in-Some.node in
    let is = c.in-Some.ensures.items in
    let growing = still_growing c.args.nodes.now now under.0 under.1 under.2 c.loop-node.key fresh rest node (c.loop-node.invariant.growing under.0 under.1 under.2 under.3 under.4 under.5) is in
    let next = next_node c.args.nodes.now now under.0 under.1 under.2 c.loop-node.key fresh rest node under.4 growing is in
    next.alone

pub add-key-requires-clause-content : goal.add-key-requires-clause-content
add-key-requires-clause-content c =
    let under = c.requires.under in
    let now = c.loop-node.nodes in
    let fresh : List Node = c.loop-node.fresh.items in
    let rest : List Node = c.pop.new.self.items in
    let node = c.in-Some.node in
    let is = c.in-Some.ensures.items in
    let growing = still_growing c.args.nodes.now now under.0 under.1 under.2 c.loop-node.key fresh rest node (c.loop-node.invariant.growing under.0 under.1 under.2 under.3 under.4 under.5) is in
    let next = next_node c.args.nodes.now now under.0 under.1 under.2 c.loop-node.key fresh rest node under.4 growing is in
    next.content

pub loop-node-preserved : goal.loop-node-preserved
loop-node-preserved c =
    let now = c.loop-node.nodes in
    let after = c.add-key.new.nodes in
    let fresh : List Node = c.loop-node.fresh.items in
    let rest : List Node = c.pop.new.self.items in
    let node = c.in-Some.node in
    let x : Node = record node { parent = Some c.loop-node.key } in
    let is = c.in-Some.ensures.items in
    let linked = c.loop-node.invariant.linked in
    record {
      growing = λ root path doc listed document under.
          let growing = still_growing c.args.nodes.now now root path doc c.loop-node.key fresh rest node (c.loop-node.invariant.growing root path doc listed document under) is in
          grow_step c.args.nodes.now now after root path doc c.loop-node.key c.add-key.result fresh rest x node growing listed document is c.add-key.ensures.leaf
          (c.add-key.ensures.listed root growing.grown.listed) refl refl c.add-key.ensures.room;
      linked = (put_first c.loop-node.key c.add-key.result linked.0, c.add-key.ensures.linked linked.0 linked.1);
    }

pub returns-clause-placed : goal.returns-clause-placed
returns-clause-placed c root path doc listed document under =
    grown_whole c.args.nodes.now c.loop-node.nodes root path doc c.loop-node.key c.loop-node.fresh.items (c.loop-node.invariant.growing root path doc listed document under)
    (nil_from_length c.loop-node.fresh.items (none_left c.loop-node.fresh.len (length c.loop-node.fresh.items) c.loop-node.fresh.ok.0 c.in_default.ensures.variant.1))
