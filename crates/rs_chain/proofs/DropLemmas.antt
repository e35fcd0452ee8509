-- A node taken out of the ring, then out of its folder's kids, then out of the slab.
use Rattle.std.proofs.Common.{◌≡◌, ◌≢◌, ◌⊎◌, ◌↔◌, ◌<◌, ◌≤◌, ℕ, ◌+◌, true, not, length, get_or, List, [], ◌∷◌, remove, map, Option, Some, None, is_some, arith, refl, sym, ap, ◌∙◌, subst, inl, inr, ⊎_elim}
use Rattle.std.specs.Option.{option_map_or}
use Rattle.std.proofs.lemmas.Bool.{cases_eq}
use Rattle.slab.specs.Slab.{Slab, get, ContainsKey, Updates, slab_len}
use Rattle.rs_path.specs.declared.child.Child.{Child}
use Rattle.rs_rules.specs.declared.doc.Doc.{Doc}
use Rattle.rs_rules.specs.Laws.{is_sorted}
use Rattle.rs_chain.specs.declared.node.Node.{Node}
use Rattle.rs_chain.specs.Nodes.{field, no_child, number, unlinked, but_kids, node_child, node_doc, node_number, node_kids, node_parent, node_next, node_prev, node_first, ChangesAt, Stays, SameButLinks, ChangesKids}
use Rattle.rs_chain.specs.Rings.{In, Lacks, IsRing, AreRings, taken_out}
use Rattle.rs_chain.specs.Climbs.{AreLinked}
use Rattle.rs_chain.specs.Walks.{AreListed}
use Rattle.rs_chain.specs.Leaves.{HasLeaf}
use Rattle.rs_chain.proofs.InLemmas.{kid_parent, parent_kid}
use Rattle.rs_chain.proofs.NodeLemmas.{Others, links_live, links_field, kids_live, kids_field}
use Rattle.rs_chain.proofs.RingLemmas.{lacks_if, without_it}
use Rattle.rs_chain.proofs.LinkLemmas.{parent_live, out_in, out_of_all}
use Rattle.rs_chain.proofs.ClimbLemmas.{rings_kept}
use Rattle.rs_chain.proofs.KeyLemmas.{remove_in, remove_old, remove_gone, sorted_remove}
use Rattle.rs_chain.proofs.OneMoreLemmas.{map_same, no_ring, rings_apart}

some_eq : (a b : ℕ) (o : Option ℕ) → o ≡ Some a → o ≡ Some b → b ≡ a
some_eq a b o one two = cc

module _ (s0 s1 s2 s3 : Slab Node) (f k place : ℕ) (x : Node) (was : get s0 k ≡ Some x) (parent : node_parent s0 k ≡ Some f) (bare : node_kids s0 k ≡ [])
    (link : SameButLinks s0 s1) (kid : ChangesKids s1 s2 f (remove (node_kids s1 f) place)) (out : Updates s2 s3 k None)
    (within : place < length (node_kids s0 f)) (there : get_or (node_kids s0 f) place 0 ≡ k)
    (fewer : slab_len s3 + 1 ≡ slab_len s2) (cap : s3.capacity ≡ s2.capacity) where
  -- what any function of the nodes but of links and kids was, and is
  before : {X : Type 0} (of : Node → X) (back : Others → X) (nothing : X) → ((y : Node) → back (but_kids y) ≡ of y) → ((y : Node) → of (unlinked y) ≡ of y)
      → ChangesAt (field of nothing s3) (field of nothing s0) k (of x)
  before of back nothing same free = record {
    here = ap (λ o. option_map_or of o nothing) was;
    others = λ j other.
        sym (ap (λ o. option_map_or of o nothing) (out.others j other)
        ∙ kids_field s1 s2 f (remove (node_kids s1 f) place) kid of back nothing same j ∙ links_field s0 s1 link of nothing free j);
  }

  kids_linked : (j : ℕ) → node_kids s1 j ≡ node_kids s0 j
  kids_linked j = links_field s0 s1 link (λ (y : Node). y.kids.items) [] (λ y. refl) j

  apart : f ≡ k → ⊥
  apart same =
      let none : node_kids s0 f ≡ [] = ap (node_kids s0) same ∙ bare in
      let zero_long : length (node_kids s0 f) ≡ 0 = ap length none in
      absurd (omega (arith, within, zero_long))

  kids_out : (j : ℕ) → (j ≡ k → ⊥) → node_kids s3 j ≡ node_kids s2 j
  kids_out j other = ap (λ o. option_map_or (λ (y : Node). y.kids.items) o []) (out.others j other)

  kids_gone : node_kids s3 k ≡ []
  kids_gone = ap (λ o. option_map_or (λ (y : Node). y.kids.items) o []) out.changed

  kids_new : node_kids s3 f ≡ remove (node_kids s0 f) place
  kids_new = kids_out f apart ∙ kid.kids.here ∙ ap (λ ks. remove ks place) (kids_linked f)

  kids_stay : (j : ℕ) → (j ≡ f → ⊥) → node_kids s0 j ≡ node_kids s3 j
  kids_stay j away =
      ⊎_elim
      (λ same. ap (node_kids s0) same ∙ bare ∙ sym kids_gone ∙ ap (node_kids s3) (sym same))
      (λ other. sym (kids_out j other ∙ kid.kids.others j away ∙ kids_linked j))
      (cases_eq j k)

  member : (j : ℕ) → In j (node_kids s0 f) → (j ≡ k) ⊎ In j (node_kids s3 f)
  member j within_kids =
      ⊎_elim
      (λ it. inl (it ∙ there))
      (λ rest. inr (subst (λ ks. In j ks) (sym kids_new) rest))
      (remove_old j (node_kids s0 f) place within within_kids)

  module _ (root : ℕ) (old : AreListed s0 root) where
    among : In k (node_kids s0 f)
    among = parent_kid old f k parent

    member_back : (j : ℕ) → (j ≡ k) ⊎ In j (node_kids s3 f) → In j (node_kids s0 f)
    member_back j one =
        ⊎_elim
        (λ it. subst (λ i. In i (node_kids s0 f)) (sym it) among)
        (λ rest. remove_in j (node_kids s0 f) place (subst (λ ks. In j ks) kids_new rest))
        one

    gone_kid : (g : ℕ) → In k (node_kids s3 g) → ⊥
    gone_kid g inside =
        ⊎_elim
        (λ here.
        remove_gone (node_child s0) (node_kids s0 f) place (old.sorted f) within
        (subst (λ i. In i (remove (node_kids s0 f) place)) (sym there) (subst (λ ks. In k ks) kids_new (subst (λ h. In k (node_kids s3 h)) here inside))))
        (λ away.
        let is : node_parent s0 k ≡ Some g = kid_parent old g k (subst (λ ks. In k ks) (sym (kids_stay g away)) inside) in
        away (some_eq f g (node_parent s0 k) parent is))
        (cases_eq g f)

    live_out : (j : ℕ) → j ≢ k → is_some (get s0 j) ≡ is_some (get s3 j)
    live_out j other = sym (ap is_some (out.others j other) ∙ kids_live s1 s2 f (remove (node_kids s1 f) place) kid j ∙ links_live s0 s1 link j)

    pub dropped : (order : ℕ → List ℕ) → AreLinked s0 order → HasLeaf s3 s0 f k x
    dropped order linked = record {
      none = out.changed;
      there = ap is_some was;
      live = live_out;
      child = before (λ (y : Node). y.child) (λ o. o.0) no_child (λ y. refl) (λ y. refl);
      doc = before (λ (y : Node). y.doc) (λ o. o.1) None (λ y. refl) (λ y. refl);
      number = before number (λ o. option_map_or (λ (d : Doc). d.version) o.1 o.2) 0 (λ y. refl) (λ y. refl);
      parent = record { here = parent; others = (before (λ (y : Node). y.parent) (λ o. o.3) None (λ y. refl) (λ y. refl)).others };
      kids = kids_stay;
      members = λ j. (member j, member_back j);
      fresh = gone_kid;
      bare = bare;
      apart = apart;
      held = sym (live_out f apart) ∙ linked.held f k parent;
      len = let a = link.len in let b = kid.len in omega (arith, a, b, fewer);
      capacity = sym (cap ∙ kid.capacity ∙ link.capacity);
    }

    pub dropped_sorted : is_sorted (map (node_child s3) (node_kids s3 f)) ≡ true
    dropped_sorted =
        let child = before (λ (y : Node). y.child) (λ o. o.0) no_child (λ y. refl) (λ y. refl) in
        ap is_sorted (map_same (node_child s3) (node_child s0) (node_kids s3 f) (λ j inside. sym (child.others j (λ same. gone_kid f (subst (λ i. In i (node_kids s3 f)) same inside)))))
        ∙ ap (λ ks. is_sorted (map (node_child s0) ks)) kids_new ∙ sorted_remove (node_child s0) (node_kids s0 f) place (old.sorted f)

  -- the rings stay, since it is in none by then
  module _ (order : ℕ → List ℕ) (old : AreLinked s0 order) (rings : AreRings (node_next s1) (node_prev s1) (node_first s1) (taken_out f k order)) where
    pub out_lacks : (g : ℕ) → Lacks k (taken_out f k order g)
    out_lacks = out_of_all order f k old.rings.lone (without_it k (order f) (old.rings.apart f)) ((old.members f k).1 parent)

    nil_if : (ks : List ℕ) → ((i : ℕ) → In i ks → ⊥) → ks ≡ []
    nil_if [] none = refl
    nil_if (i ∷ is) none = absurd (none i (inl refl))

    no_first : ((i : ℕ) → node_parent s0 i ≡ Some k → ⊥) → node_first s1 k ≡ None
    no_first none =
        let empty : taken_out f k order k ≡ [] = nil_if (taken_out f k order k) (λ i inside. none i ((old.members k i).0 (out_in order f k k i inside))) in
        subst (λ ks. IsRing (node_next s1) (node_prev s1) (node_first s1 k) ks) empty (rings.rings k)

    stay : {X : Type 0} (of : Node → X) (back : Others → X) (nothing : X) → ((y : Node) → back (but_kids y) ≡ of y) → Stays (field of nothing s1) (field of nothing s2)
    stay of back nothing same = kids_field s1 s2 f (remove (node_kids s1 f) place) kid of back nothing same

    leave : {X : Type 0} (of : Node → X) (nothing : X) → ChangesAt (field of nothing s2) (field of nothing s3) k nothing
    leave of nothing = record {
      here = ap (λ o. option_map_or of o nothing) out.changed;
      others = λ j other. ap (λ o. option_map_or of o nothing) (out.others j other);
    }

    pub out_rings : ((i : ℕ) → node_parent s0 i ≡ Some k → ⊥) → AreRings (node_next s3) (node_prev s3) (node_first s3) (taken_out f k order)
    out_rings none =
        rings_apart (node_next s2) (node_prev s2) (node_next s3) (node_prev s3) (node_first s2) (node_first s3) (taken_out f k order) k 0 0
        (rings_kept (node_next s1) (node_prev s1) (node_next s2) (node_prev s2) (node_first s1) (node_first s2) (taken_out f k order)
        (stay (λ (y : Node). y.next) (λ o. o.5) 0 (λ y. refl)) (stay (λ (y : Node). y.prev) (λ o. o.6) 0 (λ y. refl)) (stay (λ (y : Node). y.first) (λ o. o.4) None (λ y. refl)) rings)
        out_lacks
        (stay (λ (y : Node). y.first) (λ o. o.4) None (λ y. refl) k ∙ no_first none)
        (leave (λ (y : Node). y.next) 0) (leave (λ (y : Node). y.prev) 0) (leave (λ (y : Node). y.first) None)
