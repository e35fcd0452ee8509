-- A node goes while its folder isn't the root and has no children.
use Rattle.std.proofs.Common.{◌≡◌, ◌≢◌, ℕ, true, false, not, List, Some, refl, sym, ap, ◌∙◌, inl, inr}
use Rattle.rs_path.specs.Paths.{is_nil, folder_at}
use Rattle.rs_chain.specs.Nodes.{node_kids}
use Rattle.rs_chain.specs.Rings.{taken_out}
use Rattle.rs_chain.specs.Walks.{key_at}
use Rattle.rs_chain.proofs.FlagLemmas.{key_flag}
use Rattle.rs_chain.proofs.TreeLemmas.{placed_of}
use Rattle.rs_chain.proofs.PruneLemmas.{cut_first, cut_next, cut_done, has_folder, document_bare, some_kids, root_front, other_front}
use Rattle.rs_chain.proofs.writes.prune.Goals as goal

pub drop_node-folder-requires-clause-there : goal.drop_node-folder-requires-clause-there
drop_node-folder-requires-clause-there c =
    let doc = c.requires.document in
    (key_flag c.args.nodes.now c.args.root c.requires.listed doc.0 c.args.key (placed_of doc.0 doc.2) doc.3).0

pub drop_node-folder-requires-clause-child : goal.drop_node-folder-requires-clause-child
drop_node-folder-requires-clause-child c =
    let doc = c.requires.document in has_folder c.args.nodes.now c.args.root c.args.key doc.0 c.requires.listed doc.2 doc.3

pub drop_node-folder-requires-clause-bare : goal.drop_node-folder-requires-clause-bare
drop_node-folder-requires-clause-bare c =
    let doc = c.requires.document in document_bare c.args.nodes.now c.args.root c.args.key doc.0 c.requires.listed doc.1 doc.2 doc.3

pub loop-folder-init : goal.loop-folder-init
loop-folder-init c =
    let s = c.args.nodes.now in
    let t = c.drop_node-folder.new.nodes in
    let leaf = c.drop_node-folder.ensures.leaf in
    let linked = c.requires.linked in
    record {
      linked = (taken_out c.drop_node-folder.result c.args.key linked.0, c.drop_node-folder.ensures.linked linked.0 linked.1);
      cut = λ path document named there.
          cut_next s s t c.args.root path path c.args.key c.drop_node-folder.result leaf.0 (cut_first s c.args.root path c.args.key c.requires.listed document there) leaf.1
          (c.drop_node-folder.ensures.listed c.args.root c.requires.listed) c.drop_node-folder.ensures.parent named;
    }

pub has_kids-requires : goal.has_kids-requires
has_kids-requires c =
    let doc = c.requires.document in
    let state = c.loop-folder.invariant.cut doc.0 doc.1 doc.2 doc.3 in
    record { there = (key_flag c.loop-folder.nodes c.args.root state.2.listed (folder_at state.0) c.loop-folder.folder refl state.2.reached).0 }

pub drop_node-folder-requires-in-loop-folder-clause-there : goal.drop_node-folder-requires-in-loop-folder-clause-there
drop_node-folder-requires-in-loop-folder-clause-there c =
    let doc = c.requires.document in
    let state = c.loop-folder.invariant.cut doc.0 doc.1 doc.2 doc.3 in
    (key_flag c.loop-folder.nodes c.args.root state.2.listed (folder_at state.0) c.loop-folder.folder refl state.2.reached).0

pub drop_node-folder-requires-in-loop-folder-clause-child : goal.drop_node-folder-requires-in-loop-folder-clause-child
drop_node-folder-requires-in-loop-folder-clause-child c =
    let doc = c.requires.document in
    let state = c.loop-folder.invariant.cut doc.0 doc.1 doc.2 doc.3 in
    has_folder c.loop-folder.nodes c.args.root c.loop-folder.folder (folder_at state.0) state.2.listed (other_front c.loop-folder.nodes c.args.root c.loop-folder.folder state.0 state.2.reached c.loop-folder-test.true) state.2.reached

pub loop-folder-preserved : goal.loop-folder-preserved
loop-folder-preserved c =
    let now = c.loop-folder.nodes in
    let leaf = c.drop_node-folder-in-loop-folder.ensures.leaf in
    let next = c.drop_node-folder-in-loop-folder.new.nodes in
    let linked = c.loop-folder.invariant.linked in
    record {
      linked = (taken_out c.drop_node-folder-in-loop-folder.result c.loop-folder.folder linked.0, c.drop_node-folder-in-loop-folder.ensures.linked linked.0 linked.1);
      cut = λ path document named there.
          let state = c.loop-folder.invariant.cut path document named there in
          cut_next c.args.nodes.now now next c.args.root path (folder_at state.0) c.loop-folder.folder c.drop_node-folder-in-loop-folder.result leaf.0 state.2 leaf.1
          (c.drop_node-folder-in-loop-folder.ensures.listed c.args.root state.2.listed) c.drop_node-folder-in-loop-folder.ensures.parent
          (other_front now c.args.root c.loop-folder.folder state.0 state.2.reached c.loop-folder-test.true);
    }

pub returns-else-not-has_kids-clause-pruned : goal.returns-else-not-has_kids-clause-pruned
returns-else-not-has_kids-clause-pruned c path document named there =
    let state = c.loop-folder.invariant.cut path document named there in
    (folder_at state.0, cut_done c.args.nodes.now c.loop-folder.nodes c.args.root path (folder_at state.0) c.loop-folder.folder state.2 state.1 (inr (some_kids (node_kids c.loop-folder.nodes c.loop-folder.folder) (sym c.has_kids.ensures.kids ∙ c.if-not-has_kids.false))))

pub returns-after-loop-folder-clause-pruned : goal.returns-after-loop-folder-clause-pruned
returns-after-loop-folder-clause-pruned c path document named there =
    let state = c.loop-folder.invariant.cut path document named there in (
      folder_at state.0,
      cut_done c.args.nodes.now c.loop-folder.nodes c.args.root path (folder_at state.0) c.loop-folder.folder state.2 state.1
          (inl (root_front c.loop-folder.nodes c.args.root state.0 state.2.listed (state.2.reached ∙ ap (λ (k : ℕ). Some k) c.loop-folder-test.false))),
    )
