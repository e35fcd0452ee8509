-- A node put into the slab, then among its folder's kids, then into the ring.
use Rattle.std.proofs.Common.{◌≡◌, ◌≢◌, ◌⊎◌, ◌↔◌, ◌≤◌, ℕ, ◌+◌, true, not, List, [], insert, map, Option, Some, None, is_some, vec_capacity, arith, refl, sym, ap, ◌∙◌, subst, inl, inr, ⊎_elim}
use Rattle.std.specs.Option.{option_map_or}
use Rattle.std.proofs.lemmas.Bool.{cases_eq}
use Rattle.slab.specs.Slab.{Slab, get, ContainsKey, Updates, slab_len, HasRoomFor}
use Rattle.rs_path.specs.declared.child.Child.{Child}
use Rattle.rs_rules.specs.declared.doc.Doc.{Doc}
use Rattle.rs_rules.specs.Laws.{is_sorted}
use Rattle.rs_chain.specs.declared.node.Node.{Node}
use Rattle.rs_chain.specs.Nodes.{field, no_child, number, unlinked, but_kids, node_child, node_doc, node_number, node_kids, node_room, node_parent, node_next, node_prev, node_first, ChangesAt, SameButLinks, ChangesKids}
use Rattle.rs_chain.specs.Rings.{In, Lacks, AreRings}
use Rattle.rs_chain.specs.Climbs.{AreLinked}
use Rattle.rs_chain.specs.Walks.{IsPlaceFor, AreListed}
use Rattle.rs_chain.specs.Leaves.{HasLeaf}
use Rattle.rs_chain.proofs.NodeLemmas.{Others, links_live, links_field, kids_live, kids_field}
use Rattle.rs_chain.proofs.MoveLemmas.{moves_keeps}
use Rattle.rs_chain.proofs.RingLemmas.{lacks_if}
use Rattle.rs_chain.proofs.LinkLemmas.{parent_live, members_live}
use Rattle.rs_chain.proofs.KeyLemmas.{insert_in, insert_it, insert_old, sorted_insert, place_moves}
use Rattle.rs_chain.proofs.OneMoreLemmas.{gone_live, map_same, rings_apart}

module _ (s0 s1 s2 : Slab Node) (f k place : ℕ) (x : Node) (none : get s0 k ≡ None) (held : ContainsKey s0 f) (ins : Updates s0 s1 k (Some x)) (kid : ChangesKids s1 s2 f (insert (node_kids s1 f) place k)) where
  apart : f ≡ k → ⊥
  apart same = gone_live s0 f k none held same

  ins_field : {X : Type 0} (of : Node → X) (nothing : X) → ChangesAt (field of nothing s0) (field of nothing s1) k (of x)
  ins_field of nothing = record {
    here = ap (λ o. option_map_or of o nothing) ins.changed;
    others = λ j other. ap (λ o. option_map_or of o nothing) (ins.others j other);
  }

  two_field : {X : Type 0} (of : Node → X) (back : Others → X) (nothing : X) → ((y : Node) → back (but_kids y) ≡ of y) → ChangesAt (field of nothing s0) (field of nothing s2) k (of x)
  two_field of back nothing same =
      moves_keeps (field of nothing s0) (field of nothing s1) (field of nothing s2) k (of x) (ins_field of nothing) (kids_field s1 s2 f (insert (node_kids s1 f) place k) kid of back nothing same)

  pub put_live : (j : ℕ) → ContainsKey s0 j → ContainsKey s2 j
  put_live j live =
      kids_live s1 s2 f (insert (node_kids s1 f) place k) kid j ∙ ap is_some (ins.others j (gone_live s0 j k none live)) ∙ live

  pub put_there : ContainsKey s2 k
  put_there = kids_live s1 s2 f (insert (node_kids s1 f) place k) kid k ∙ ap is_some ins.changed

  -- the folder's kids before it
  kids_before : node_kids s1 f ≡ node_kids s0 f
  kids_before = (ins_field (λ (y : Node). y.kids.items) []).others f apart

  pub kids_between : (j : ℕ) → j ≢ k → node_kids s1 j ≡ node_kids s0 j
  kids_between j other = (ins_field (λ (y : Node). y.kids.items) []).others j other

  pub room_between : (j : ℕ) → j ≢ k → node_room s1 j ≡ node_room s0 j
  room_between j other = (ins_field (λ (y : Node). vec_capacity y.kids) 0).others j other

  -- the rings stay, since it is in none
  pub put_rings : (order : ℕ → List ℕ) → AreLinked s0 order → x.first ≡ None → AreRings (node_next s2) (node_prev s2) (node_first s2) order
  put_rings order linked alone =
      let lacks : (g : ℕ) → Lacks k (order g) = λ g. lacks_if k (order g) (λ there. gone_live s0 k k none (members_live s0 order linked g k there) refl) in
      rings_apart (node_next s0) (node_prev s0) (node_next s2) (node_prev s2) (node_first s0) (node_first s2) order k x.next x.prev linked.rings lacks
      (ap (λ o. option_map_or (λ (y : Node). y.first) o None) none)
      (two_field (λ (y : Node). y.next) (λ o. o.5) 0 (λ y. refl))
      (two_field (λ (y : Node). y.prev) (λ o. o.6) 0 (λ y. refl))
      (subst (λ o. ChangesAt (node_first s0) (node_first s2) k o) alone (two_field (λ (y : Node). y.first) (λ o. o.4) None (λ y. refl)))

  pub put_lacks : (order : ℕ → List ℕ) → AreLinked s0 order → (g : ℕ) → Lacks k (order g)
  put_lacks order linked g = lacks_if k (order g) (λ there. gone_live s0 k k none (members_live s0 order linked g k there) refl)

  module _ (s3 : Slab Node) (link : SameButLinks s2 s3) (len : slab_len s1 ≡ slab_len s0 + 1) (cap : s1.capacity ≡ s0.capacity) (parent : x.parent ≡ Some f) (bare : x.kids.items ≡ []) where
    whole : {X : Type 0} (of : Node → X) (back : Others → X) (nothing : X) → ((y : Node) → back (but_kids y) ≡ of y) → ((y : Node) → of (unlinked y) ≡ of y)
        → ChangesAt (field of nothing s0) (field of nothing s3) k (of x)
    whole of back nothing same free =
        moves_keeps (field of nothing s0) (field of nothing s2) (field of nothing s3) k (of x) (two_field of back nothing same) (links_field s2 s3 link of nothing free)

    kids_after : (j : ℕ) → node_kids s3 j ≡ node_kids s2 j
    kids_after j = links_field s2 s3 link (λ (y : Node). y.kids.items) [] (λ y. refl) j

    kids_new : node_kids s3 f ≡ insert (node_kids s0 f) place k
    kids_new = kids_after f ∙ kid.kids.here ∙ ap (λ ks. insert ks place k) kids_before

    kids_bare : node_kids s1 k ≡ []
    kids_bare = (ins_field (λ (y : Node). y.kids.items) []).here ∙ bare

    kids_none : node_kids s0 k ≡ []
    kids_none = ap (λ o. option_map_or (λ (y : Node). y.kids.items) o []) none

    kids_stay : (j : ℕ) → (j ≡ f → ⊥) → node_kids s3 j ≡ node_kids s0 j
    kids_stay j away =
        kids_after j ∙ kid.kids.others j away
        ∙ ⊎_elim
        (λ same. ap (node_kids s1) same ∙ kids_bare ∙ sym kids_none ∙ sym (ap (node_kids s0) same))
        (λ other. (ins_field (λ (y : Node). y.kids.items) []).others j other)
        (cases_eq j k)

    member : (j : ℕ) → In j (node_kids s3 f) → (j ≡ k) ⊎ In j (node_kids s0 f)
    member j there = insert_in j k (node_kids s0 f) place (subst (λ ks. In j ks) kids_new there)

    member_back : (j : ℕ) → (j ≡ k) ⊎ In j (node_kids s0 f) → In j (node_kids s3 f)
    member_back j there =
        subst (λ ks. In j ks) (sym kids_new)
        (⊎_elim
        (λ it. subst (λ i. In i (insert (node_kids s0 f) place k)) (sym it) (insert_it k (node_kids s0 f) place))
        (λ old. insert_old j k (node_kids s0 f) place old)
        there)

    pub added : ((g : ℕ) → In k (node_kids s0 g) → ⊥) → HasLeaf s0 s3 f k x
    added fresh = record {
      none = none;
      there = links_live s2 s3 link k ∙ put_there;
      live = λ j other. links_live s2 s3 link j ∙ kids_live s1 s2 f (insert (node_kids s1 f) place k) kid j ∙ ap is_some (ins.others j other);
      child = whole (λ (y : Node). y.child) (λ o. o.0) no_child (λ y. refl) (λ y. refl);
      doc = whole (λ (y : Node). y.doc) (λ o. o.1) None (λ y. refl) (λ y. refl);
      number = whole number (λ o. option_map_or (λ (d : Doc). d.version) o.1 o.2) 0 (λ y. refl) (λ y. refl);
      parent = subst (λ o. ChangesAt (node_parent s0) (node_parent s3) k o) parent (whole (λ (y : Node). y.parent) (λ o. o.3) None (λ y. refl) (λ y. refl));
      kids = kids_stay;
      members = λ j. (member j, member_back j);
      fresh = fresh;
      bare = kids_after k ∙ kid.kids.others k (λ same. apart (sym same)) ∙ kids_bare;
      apart = apart;
      held = held;
      len = let a = link.len in let b = kid.len in omega (arith, a, b, len);
      capacity = link.capacity ∙ kid.capacity ∙ cap;
    }

    pub added_room : node_room s3 k ≡ vec_capacity x.kids
    added_room =
        links_field s2 s3 link (λ (y : Node). vec_capacity y.kids) 0 (λ y. refl) k ∙ kid.rooms k (λ same. apart (sym same))
        ∙ (ins_field (λ (y : Node). vec_capacity y.kids) 0).here

    -- the kids with it ascend
    pub added_sorted : ((g : ℕ) → In k (node_kids s0 g) → ⊥) → is_sorted (map (node_child s0) (node_kids s0 f)) ≡ true → IsPlaceFor (node_child s0) (node_kids s0 f) x.child place
        → is_sorted (map (node_child s3) (node_kids s3 f)) ≡ true
    added_sorted fresh sorted place_for =
        let child = whole (λ (y : Node). y.child) (λ o. o.0) no_child (λ y. refl) (λ y. refl) in
        let names : (j : ℕ) → In j (node_kids s0 f) → node_child s3 j ≡ node_child s0 j = λ j there. child.others j (λ same. fresh f (subst (λ i. In i (node_kids s0 f)) same there)) in
        ap (λ ks. is_sorted (map (node_child s3) ks)) kids_new
        ∙ sorted_insert (node_child s3) k (node_kids s0 f) place
        (ap is_sorted (map_same (node_child s3) (node_child s0) (node_kids s0 f) names) ∙ sorted)
        (place_moves (node_child s0) (node_child s3) (node_kids s0 f) x.child (node_child s3 k) place child.here names place_for)
