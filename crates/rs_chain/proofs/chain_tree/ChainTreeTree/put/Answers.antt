-- The document is put in, and then its number goes to it and to the folders above it.
use Rattle.std.proofs.Common.{◌≡◌, ◌≤◌, ◌<◌, ◌^◌, ℕ, ◌+◌, ◌-◌, true, false, List, [], length, Option, Some, None, arith, refl, sym, ap, ◌∙◌}
use Rattle.rs_path.specs.Paths.{Path, is_nil}
use Rattle.rs_rules.specs.Documents.{others, doc_in, live_in}
use Rattle.rs_rules.specs.Contents.{Contents}
use Rattle.rs_chain.specs.Nodes.{node_doc, body_length}
use Rattle.rs_chain.specs.Walks.{onwards, key_at}
use Rattle.rs_chain.specs.Rooms.{IsSpareFor, undated_doc}
use Rattle.rs_chain.specs.Writes.{IsPlaced}
use Rattle.rs_chain.specs.Shown.{NodesStandFor}
use Rattle.rs_chain.proofs.UpLemmas.{up_from}
use Rattle.rs_chain.proofs.TreeLemmas.{placed_of, put_listed, put_stands}
use Rattle.rs_chain.proofs.chain_tree.ChainTreeTree.put.Goals as goal

pub rise-requires-clause-way : goal.rise-requires-clause-way
rise-requires-clause-way c =
    let fits = c.requires.fits in
    let root : ℕ = c.args.self.now.root in
    let s1 = c.place-written.new.nodes in
    let key : ℕ = c.place-written.result.key in
    let placed = (c.place-written.ensures.placed root fits.1 fits.2 fits.3 c.args.self.now.listed fits.5).0 in
    let named = placed_of fits.1 fits.5.named in
    let up = up_from s1 root fits.1 key placed.listed named placed.reached in
    let linked = c.place-written.ensures.linked in
    let count = up.count in
    let few = fits.5.few in
    (linked.0, up.up, linked.1, up.climbs, omega (arith, count, few))

pub invariant_of-self : goal.invariant_of-self
invariant_of-self c =
    let fits = c.requires.fits in
    let root : ℕ = c.args.self.now.root in
    let s0 = c.args.self.now.nodes in
    let s1 = c.place-written.new.nodes in
    let key : ℕ = c.place-written.result.key in
    let placed = (c.place-written.ensures.placed root fits.1 fits.2 fits.3 c.args.self.now.listed fits.5).0 in
    let up = up_from s1 root fits.1 key placed.listed (placed_of fits.1 fits.5.named) placed.reached in
    let linked = c.place-written.ensures.linked in
    let raised = c.rise.ensures.raised linked.0 up.up linked.1 up.climbs in
    record { listed = put_listed s0 s1 c.rise.new.nodes root c.args.n raised.0 fits.1 key fits.2 fits.3 fits.0 fits.6 fits.5.named c.args.self.now.listed placed linked.0 raised.1 }

pub returns : goal.returns
returns c = record {
  put = λ w path kind body writer stands room.
      let root : ℕ = c.args.self.now.root in
      let s0 = c.args.self.now.nodes in
      let s1 = c.place-written.new.nodes in
      let key : ℕ = c.place-written.result.key in
      let made = c.place-written.ensures.placed root path kind body c.args.self.now.listed room in
      let placed : IsPlaced s0 s1 root path key (undated_doc kind body) = made.0 in
      let up = up_from s1 root path key placed.listed (placed_of path room.named) placed.reached in
      let linked = c.place-written.ensures.linked in
      let raised = c.rise.ensures.raised linked.0 up.up linked.1 up.climbs in
      put_stands s0 s1 c.rise.new.nodes root c.args.n raised.0 path key kind body w room.document room.named c.args.self.now.listed placed linked.0 raised.1
      writer c.args.self.now.live _ c.place-written.result.before stands c.live_laws.ensures.absent c.live_laws.ensures.present made.1
      (ap (λ (size : ℕ). c.args.self.now.live - c.place-written.result.before + size) (c.length_at.ensures.length ∙ ap body_length placed.has));
}
