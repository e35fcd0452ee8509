-- The way ends at the document's node, or at a folder that has no child to go on to.
use Rattle.std.proofs.Common.{◌≡◌, ◌<◌, ◌≤◌, ℕ, ◌+◌, List, [], length, drop, Option, Some, None, arith, refl, sym, ap, ◌∙◌, subst}
use Rattle.std.specs.Option.{option_map}
use Rattle.slab.specs.Slab.{Slab, get, HasRoomFor}
use Rattle.rs_rules.specs.declared.doc.Doc.{Doc}
use Rattle.rs_chain.specs.declared.node.Node.{Node}
use Rattle.rs_chain.specs.Nodes.{but_room, SameButRoom}
use Rattle.rs_chain.specs.Walks.{front_at, step_at, key_at}
use Rattle.rs_chain.specs.Rooms.{undated_doc, AreFresh}
use Rattle.rs_chain.proofs.WalkLemmas.{way_stops, way_done}
use Rattle.rs_chain.proofs.TreeLemmas.{path_few}
use Rattle.rs_chain.proofs.GrowLemmas.{named_of}
use Rattle.rs_chain.proofs.StandLemmas.{child_stays, room_shape, room_keys}
use Rattle.rs_chain.proofs.room.Room.of.Goals as goal

doc_is : (k l b d : List ℕ) → k ≡ l → b ≡ d → undated_doc k b ≡ undated_doc l d
doc_is k l b d kind body = ap (λ x. undated_doc x b) kind ∙ ap (undated_doc l) body

pub returns-then-found-names-clause-room : goal.returns-then-found-names-clause-room
returns-then-found-names-clause-room c =
    let s = c.args.nodes.now in
    let p = c.args.path.now in
    let depth : ℕ = c.deepest-found.result.depth in
    let all : length p.names ≤ depth = subst (λ (ns : List (List ℕ)). length ns ≤ depth) c.names-names.ensures.names (omega arith) in
    record {
      document = c.requires.document;
      named = named_of p c.names-names.ensures.path c.requires.document;
      few = path_few p c.names-names.ensures.path;
      place = (
        doc_is c.in_ok-copy.field-0 c.args.kind.now c.in_ok-copy-2.field-0 c.args.body.now c.in_ok-copy.ensures.same c.in_ok-copy-2.ensures.same,
        c.deepest-found.ensures.rest ∙ way_done s c.deepest-found.result.key p.names p.folder depth all,
      );
    }

pub returns-clause-room : goal.returns-clause-room
returns-clause-room c =
    let s = c.args.nodes.now in
    let t = c.reserve_kid.new.nodes in
    let root : ℕ = c.args.root in
    let p = c.args.path.now in
    let found : ℕ = c.deepest-found.result.key in
    let depth : ℕ = c.deepest-found.result.depth in
    let apart : depth ≡ length p.names → ⊥ = λ same. c.if-found-names.false (same ∙ ap (λ (ns : List (List ℕ)). length ns) (sym c.names-names.ensures.names)) in
    let most : depth ≤ length p.names = c.deepest-found.ensures.depth in
    let within : depth < length p.names = omega (arith, apart, most) in
    let same : SameButRoom s t = record { nodes = λ k. c.in_ok-reserve_kid.ensures.same.nodes k ∙ ap (λ (r : Slab Node). option_map but_room (get r k)) c.in_ok-reserve.ensures.rest_kept } in
    let stop = c.deepest-found.ensures.stop within in
    let doc = doc_is c.in_ok-copy.field-0 c.args.kind.now c.in_ok-copy-2.field-0 c.args.body.now c.in_ok-copy.ensures.same c.in_ok-copy-2.ensures.same in
    let fresh = c.in_ok-fresh.fresh.items in
    let long : c.len.result ≡ length fresh = omega (arith, c.in_ok-fresh.fresh.ok.0, c.len.ensures) in
    record {
      document = c.requires.document;
      named = named_of p c.names-names.ensures.path c.requires.document;
      few = path_few p c.names-names.ensures.path;
      place = (
        room_keys s t same root p ∙ c.deepest-found.ensures.rest ∙ way_stops s found p depth within stop,
        record {
          depth = depth;
          within = within;
          front = room_keys s t same root (front_at p depth) ∙ c.deepest-found.ensures.front;
          free = child_stays s t (room_shape s t same) found (step_at p depth) ∙ stop;
          waiting = subst (λ (ns : List (List ℕ)). AreFresh (drop depth ns) (undated_doc c.args.kind.now c.args.body.now) fresh) c.names-names.ensures.names
              (subst (λ (d : Doc). AreFresh (drop depth c.names-names.result.now) d fresh) doc c.in_ok-fresh.ensures.fresh);
          slots = c.in_ok-reserve_kid.ensures.slots (length fresh) (subst (λ (more : ℕ). HasRoomFor c.reserve.new.self more) long c.in_ok-reserve.ensures.room);
          room = c.in_ok-reserve_kid.ensures.room;
        },
      );
    }
