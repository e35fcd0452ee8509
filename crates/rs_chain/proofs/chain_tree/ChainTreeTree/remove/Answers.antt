-- The document goes, and then the number goes to the folders that are left.
use Rattle.std.proofs.Common.{◌≡◌, ◌≤◌, ◌<◌, ℕ, ◌+◌, ◌-◌, true, false, List, [], length, Option, Some, None, is_some, arith, refl, sym, ap, ◌∙◌}
use Rattle.rs_path.specs.Paths.{Path, is_nil}
use Rattle.rs_rules.specs.Documents.{doc_in}
use Rattle.rs_chain.specs.Nodes.{node_doc, body_length}
use Rattle.rs_chain.specs.Walks.{onwards, key_at}
use Rattle.rs_chain.specs.Writes.{IsPruned}
use Rattle.rs_chain.proofs.FlagLemmas.{key_flag}
use Rattle.rs_chain.proofs.GrowLemmas.{named_of}
use Rattle.rs_chain.proofs.UpLemmas.{up_from}
use Rattle.rs_chain.proofs.TreeLemmas.{folder_placed, fewer_above, path_few, document_path, removed_listed, removed_stands}
use Rattle.rs_chain.proofs.chain_tree.ChainTreeTree.remove.Goals as goal

pub prune-folder-requires-clause-document : goal.prune-folder-requires-clause-document
prune-folder-requires-clause-document c =
    let fits = c.requires.fits in
    let s = c.args.self.now.nodes in
    let root : ℕ = c.args.self.now.root in
    let p = c.args.path.now in
    let there : key_at s root p ≡ Some c.in-Some.key = sym c.in-Some.ensures.key in
    let document = document_path s root c.in-Some.key c.args.self.now.live p fits.0 c.args.self.now.listed fits.1 c.in-Some.ensures.path there fits.2 in
    (p, document, named_of p c.in-Some.ensures.path document, there)

pub rise-requires-clause-way : goal.rise-requires-clause-way
rise-requires-clause-way c =
    let fits = c.requires.fits in
    let s = c.args.self.now.nodes in
    let t = c.prune-folder.new.nodes in
    let root : ℕ = c.args.self.now.root in
    let p = c.args.path.now in
    let there : key_at s root p ≡ Some c.in-Some.key = sym c.in-Some.ensures.key in
    let document = document_path s root c.in-Some.key c.args.self.now.live p fits.0 c.args.self.now.listed fits.1 c.in-Some.ensures.path there fits.2 in
    let pruned = c.prune-folder.ensures.pruned p document (named_of p c.in-Some.ensures.path document) there in
    let cut = pruned.1 in
    let up = up_from t root pruned.0 c.prune-folder.result cut.listed (folder_placed pruned.0 p cut.below) cut.reached in
    let linked = c.prune-folder.ensures.linked in
    let count = up.count in
    let fewer = fewer_above pruned.0 p cut.below in
    let few = path_few p c.in-Some.ensures.path in
    (linked.0, up.up, linked.1, up.climbs, omega (arith, count, fewer, few))

pub rise-requires-clause-there : goal.rise-requires-clause-there
rise-requires-clause-there c =
    let fits = c.requires.fits in
    let s = c.args.self.now.nodes in
    let t = c.prune-folder.new.nodes in
    let root : ℕ = c.args.self.now.root in
    let p = c.args.path.now in
    let there : key_at s root p ≡ Some c.in-Some.key = sym c.in-Some.ensures.key in
    let document = document_path s root c.in-Some.key c.args.self.now.live p fits.0 c.args.self.now.listed fits.1 c.in-Some.ensures.path there fits.2 in
    let pruned = c.prune-folder.ensures.pruned p document (named_of p c.in-Some.ensures.path document) there in
    let cut = pruned.1 in
    (key_flag t root cut.listed pruned.0 c.prune-folder.result (folder_placed pruned.0 p cut.below) cut.reached).0

pub invariant_of-self : goal.invariant_of-self
invariant_of-self c =
    let fits = c.requires.fits in
    let s = c.args.self.now.nodes in
    let t = c.prune-folder.new.nodes in
    let root : ℕ = c.args.self.now.root in
    let p = c.args.path.now in
    let there : key_at s root p ≡ Some c.in-Some.key = sym c.in-Some.ensures.key in
    let document = document_path s root c.in-Some.key c.args.self.now.live p fits.0 c.args.self.now.listed fits.1 c.in-Some.ensures.path there fits.2 in
    let pruned = c.prune-folder.ensures.pruned p document (named_of p c.in-Some.ensures.path document) there in
    let cut = pruned.1 in
    let up = up_from t root pruned.0 c.prune-folder.result cut.listed (folder_placed pruned.0 p cut.below) cut.reached in
    let linked = c.prune-folder.ensures.linked in
    let raised = c.rise.ensures.raised linked.0 up.up linked.1 up.climbs in
    record { listed = removed_listed s t c.rise.new.nodes root c.args.n raised.0 p pruned.0 c.prune-folder.result fits.0 document c.args.self.now.listed cut linked.0 raised.1 }

pub returns-in-Some : goal.returns-in-Some
returns-in-Some c = record {
  removed = λ w writer stands.
      let fits = c.requires.fits in
      let s = c.args.self.now.nodes in
      let t = c.prune-folder.new.nodes in
      let root : ℕ = c.args.self.now.root in
      let p = c.args.path.now in
      let there : key_at s root p ≡ Some c.in-Some.key = sym c.in-Some.ensures.key in
      let document = document_path s root c.in-Some.key c.args.self.now.live p fits.0 c.args.self.now.listed fits.1 c.in-Some.ensures.path there fits.2 in
      let pruned = c.prune-folder.ensures.pruned p document (named_of p c.in-Some.ensures.path document) there in
      let cut = pruned.1 in
      let up = up_from t root pruned.0 c.prune-folder.result cut.listed (folder_placed pruned.0 p cut.below) cut.reached in
      let linked = c.prune-folder.ensures.linked in
      let raised = c.rise.ensures.raised linked.0 up.up linked.1 up.climbs in
      removed_stands s t c.rise.new.nodes root c.args.n raised.0 p pruned.0 c.prune-folder.result w document c.args.self.now.listed cut linked.0 raised.1
      writer c.args.self.now.live _ c.length_at.result stands c.live_laws.ensures.absent c.live_laws.ensures.present (λ f g one two. c.below_laws.ensures.one_above f g p one two)
      (c.length_at.ensures.length ∙ ap (λ (o : Option ℕ). body_length (onwards o (node_doc s))) (sym there)) refl;
}
