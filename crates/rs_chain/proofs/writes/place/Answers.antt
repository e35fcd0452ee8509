-- The document's node gets the content, or the nodes are put in.
use Rattle.std.proofs.Common.{◌≡◌, ℕ, List, Option, Some, None, sym, ap, ◌∙◌, subst}
use Rattle.rs_rules.specs.declared.doc.Doc.{Doc}
use Rattle.rs_chain.specs.declared.room.Room.{Room}
use Rattle.rs_chain.specs.Nodes.{node_doc, body_length}
use Rattle.rs_chain.specs.Walks.{onwards, key_at}
use Rattle.rs_chain.specs.Rooms.{undated_doc, IsSpareFor}
use Rattle.rs_chain.specs.Writes.{IsPlaced}
use Rattle.rs_chain.proofs.FlagLemmas.{key_flag}
use Rattle.rs_chain.proofs.TreeLemmas.{placed_of}
use Rattle.rs_chain.proofs.StandLemmas.{replaced_placed, replaced_linked}
use Rattle.rs_chain.proofs.writes.place.Goals as goal

pub replace-before-requires : goal.replace-before-requires
replace-before-requires c =
    let room = c.requires.room in
    let fits = subst (λ (r : Room). IsSpareFor c.args.nodes.now room.0 r room.1 room.2 room.3) c.in-Over.is room.5 in
    record { there = (key_flag c.args.nodes.now room.0 room.4 room.1 c.in-Over.key (placed_of room.1 fits.named) fits.place.1).0 }

pub returns-in-Over-clause-placed : goal.returns-in-Over-clause-placed
returns-in-Over-clause-placed c root path kind body listed room =
    let s = c.args.nodes.now in
    let t = c.replace-before.new.nodes in
    let fits = subst (λ (r : Room). IsSpareFor s root r path kind body) c.in-Over.is room in (
      subst (λ (d : Doc). IsPlaced s t root path c.in-Over.key d) fits.place.0
          (replaced_placed s t c.in-Over.key c.in-Over.doc c.replace-before.ensures.doc root path listed fits.document (placed_of path fits.named) fits.place.1),
      c.replace-before.ensures.before ∙ ap (λ (o : Option ℕ). body_length (onwards o (node_doc s))) (sym fits.place.1),
    )

pub returns-in-Over-clause-linked : goal.returns-in-Over-clause-linked
returns-in-Over-clause-linked c =
    let linked = c.requires.linked in
    (linked.0, replaced_linked c.args.nodes.now c.replace-before.new.nodes c.in-Over.key c.in-Over.doc c.replace-before.ensures.doc linked.0 linked.1)

pub returns-in-Under-clause-placed : goal.returns-in-Under-clause-placed
returns-in-Under-clause-placed c root path kind body listed room =
    let s = c.args.nodes.now in
    let fits = subst (λ (r : Room). IsSpareFor s root r path kind body) c.in-Under.is room in (
      c.grow.ensures.placed root path (undated_doc kind body) listed fits.document fits.place.1,
      ap (λ (o : Option ℕ). body_length (onwards o (node_doc s))) (sym fits.place.0),
    )
