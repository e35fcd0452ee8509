-- A leaf more keeps links and lists, and so does one fewer.
use Rattle.std.proofs.Common.{◌≡◌, ◌≢◌, ◌⊎◌, ◌↔◌, ℕ, ◌+◌, ◌==◌, Bool, true, false, not, cond, List, [], ◌∷◌, map, Option, Some, None, is_some, arith, refl, sym, ap, ◌∙◌, subst, inl, inr, ⊎_elim}
use Rattle.std.specs.Option.{option_map_or}
use Rattle.std.proofs.lemmas.Bool.{cases_eq, true≢false}
use Rattle.slab.specs.Slab.{Slab, get, ContainsKey, Updates, slab_len}
use Rattle.rs_path.specs.declared.child.Child.{Child}
use Rattle.rs_rules.specs.Laws.{is_sorted}
use Rattle.rs_chain.specs.declared.node.Node.{Node}
use Rattle.rs_chain.specs.Nodes.{no_child, number, node_child, node_doc, node_number, node_kids, node_parent, node_next, node_prev, node_first, ChangesAt, Stays, SameButLinks, ChangesKids}
use Rattle.rs_chain.specs.Rings.{In, Lacks, IsRing, AreRings, taken_out, put_first}
use Rattle.rs_chain.specs.Climbs.{AreLinked}
use Rattle.rs_chain.specs.Walks.{AreListed}
use Rattle.rs_chain.specs.Leaves.{HasLeaf}
use Rattle.rs_chain.proofs.InLemmas.{as_children, kid_parent, parent_kid}
use Rattle.rs_chain.proofs.RingLemmas.{lacks_not, other_ring}
use Rattle.rs_chain.proofs.LinkLemmas.{parent_live, out_in, out_from, first_in, first_it, first_from}
use Rattle.rs_chain.proofs.LeafLemmas.{IsLeafMore}

pub gone_live : (s : Slab Node) (j k : ℕ) → get s k ≡ None → ContainsKey s j → j ≡ k → ⊥
gone_live s j k none live same = true≢false (sym live ∙ ap (λ i. is_some (get s i)) same ∙ ap is_some none)

-- a list without the key is named as before
pub map_same : (f g : ℕ → Child) (ks : List ℕ) → ((j : ℕ) → In j ks → f j ≡ g j) → map f ks ≡ map g ks
map_same f g [] same = refl
map_same f g (k ∷ ks) same = ap (λ c. c ∷ map f ks) (same k (inl refl)) ∙ ap (λ cs. g k ∷ cs) (map_same f g ks (λ j there. same j (inr there)))

module _ (s t : Slab Node) (f k : ℕ) (x : Node) (l : HasLeaf s t f k x) where
  other_key : (j : ℕ) → ContainsKey s j → j ≡ k → ⊥
  other_key j live same = gone_live s j k l.none live same

  no_parent : node_parent s k ≡ None
  no_parent = ap (λ o. option_map_or (λ (y : Node). y.parent) o None) l.none

  has_other : (j g : ℕ) → node_parent s j ≡ Some g → j ≡ k → ⊥
  has_other j g is same = let clash : None ≡ Some g = sym no_parent ∙ ap (node_parent s) (sym same) ∙ is in absurd (cc)

  parent_kept : (j : ℕ) → (j ≡ k → ⊥) → node_parent t j ≡ node_parent s j
  parent_kept j other = l.parent.others j other

  -- parents and lists together, in both
  kid_more : (g j : ℕ) → In j (node_kids s g) → In j (node_kids t g)
  kid_more g j there =
      ⊎_elim
      (λ here. subst (λ h. In j (node_kids t h)) (sym here) ((l.members j).1 (inr (subst (λ h. In j (node_kids s h)) here there))))
      (λ away. subst (λ ks. In j ks) (sym (l.kids g away)) there)
      (cases_eq g f)

  kid_only : (g j : ℕ) → In j (node_kids t g) → In j (node_kids s g) ⊎ ((g ≡ f) × (j ≡ k))
  kid_only g j there =
      ⊎_elim
      (λ here.
      ⊎_elim
      (λ it. inr (here, it))
      (λ old. inl (subst (λ h. In j (node_kids s h)) (sym here) old))
      ((l.members j).0 (subst (λ h. In j (node_kids t h)) here there)))
      (λ away. inl (subst (λ ks. In j ks) (l.kids g away) there))
      (cases_eq g f)

  not_fresh : (g j : ℕ) → In j (node_kids s g) → j ≡ k → ⊥
  not_fresh g j there same = l.fresh g (subst (λ i. In i (node_kids s g)) same there)

  names_kept : (g : ℕ) → map (node_child t) (node_kids s g) ≡ map (node_child s) (node_kids s g)
  names_kept g = map_same (node_child t) (node_child s) (node_kids s g) (λ j there. l.child.others j (not_fresh g j there))

  one_of : (g h : ℕ) (o : Option ℕ) → o ≡ Some g → o ≡ Some h → h ≡ g
  one_of g h o one two = cc

  module _ (root : ℕ) (old : AreListed s root) (sorted : is_sorted (map (node_child t) (node_kids t f)) ≡ true) (content : is_some x.doc ≡ not x.child.folder) (holder : (node_child s f).folder ≡ true) where
    more_sorted : (g : ℕ) → is_sorted (map (node_child t) (node_kids t g)) ≡ true
    more_sorted g =
        ⊎_elim
        (λ here. ap (λ h. is_sorted (map (node_child t) (node_kids t h))) here ∙ sorted)
        (λ away. ap (λ ks. is_sorted (map (node_child t) ks)) (l.kids g away) ∙ ap is_sorted (names_kept g) ∙ old.sorted g)
        (cases_eq g f)

    more_parent : (g j : ℕ) → In j (node_kids t g) → node_parent t j ≡ Some g
    more_parent g j there =
        ⊎_elim
        (λ was. parent_kept j (not_fresh g j was) ∙ kid_parent old g j was)
        (λ it. ap (node_parent t) it.1 ∙ l.parent.here ∙ ap (λ h. Some h) (sym it.0))
        (kid_only g j there)

    more_kid : (g j : ℕ) → node_parent t j ≡ Some g → In j (node_kids t g)
    more_kid g j is =
        ⊎_elim
        (λ same.
        let folder : g ≡ f = one_of f g (node_parent t k) l.parent.here (ap (node_parent t) (sym same) ∙ is) in
        subst (λ h. In j (node_kids t h)) (sym folder) ((l.members j).1 (inl same)))
        (λ other. kid_more g j (parent_kid old g j (sym (parent_kept j other) ∙ is)))
        (cases_eq j k)

    more_content : (j : ℕ) → ContainsKey t j → is_some (node_doc t j) ≡ not (node_child t j).folder
    more_content j live =
        ⊎_elim
        (λ same.
        ap (λ i. is_some (node_doc t i)) same ∙ ap is_some l.doc.here ∙ content
        ∙ ap (λ (c : Child). not c.folder) (sym (ap (node_child t) same ∙ l.child.here)))
        (λ other.
        ap is_some (l.doc.others j other) ∙ old.contents j (sym (l.live j other) ∙ live)
        ∙ ap (λ (c : Child). not c.folder) (sym (l.child.others j other)))
        (cases_eq j k)

    more_holder : (g j : ℕ) → node_parent t j ≡ Some g → (node_child t g).folder ≡ true
    more_holder g j is =
        ⊎_elim
        (λ same.
        let folder : g ≡ f = one_of f g (node_parent t k) l.parent.here (ap (node_parent t) (sym same) ∙ is) in
        ap (λ h. (node_child t h).folder) folder ∙ ap (λ (c : Child). c.folder) (l.child.others f l.apart) ∙ holder)
        (λ other.
        let was : node_parent s j ≡ Some g = sym (parent_kept j other) ∙ is in
        ⊎_elim
        (λ itself. absurd (no_child_of itself was))
        (λ away. ap (λ (c : Child). c.folder) (l.child.others g away) ∙ old.holders g j was)
        (cases_eq g k))
        (cases_eq j k)
      where
        no_child_of : g ≡ k → node_parent s j ≡ Some g → ⊥
        no_child_of itself was =
            subst (λ ks. In j ks) (ap (λ o. option_map_or (λ (y : Node). y.kids.items) o []) l.none) (subst (λ h. In j (node_kids s h)) itself (parent_kid old g j was))

    pub more_listed : AreListed t root
    more_listed =
        let other : (root ≡ k → ⊥) = other_key root old.root_live in
        record {
          sorted = more_sorted;
          children = λ g j. as_children t g j (more_parent g j) (more_kid g j);
          contents = more_content;
          holders = more_holder;
          root_live = l.live root other ∙ old.root_live;
          root_top = parent_kept root other ∙ old.root_top;
          root_folder = ap (λ (c : Child). c.folder) (l.child.others root other) ∙ old.root_folder;
        }

  module _ (root : ℕ) (new : AreListed t root) (sorted : is_sorted (map (node_child s) (node_kids s f)) ≡ true) where
    less_sorted : (g : ℕ) → is_sorted (map (node_child s) (node_kids s g)) ≡ true
    less_sorted g =
        ⊎_elim
        (λ here. ap (λ h. is_sorted (map (node_child s) (node_kids s h))) here ∙ sorted)
        (λ away. ap is_sorted (sym (names_kept g)) ∙ ap (λ ks. is_sorted (map (node_child t) ks)) (sym (l.kids g away)) ∙ new.sorted g)
        (cases_eq g f)

    less_parent : (g j : ℕ) → In j (node_kids s g) → node_parent s j ≡ Some g
    less_parent g j there = sym (parent_kept j (not_fresh g j there)) ∙ kid_parent new g j (kid_more g j there)

    less_kid : (g j : ℕ) → node_parent s j ≡ Some g → In j (node_kids s g)
    less_kid g j is =
        let other : (j ≡ k → ⊥) = has_other j g is in
        ⊎_elim
        (λ there. there)
        (λ it. absurd (other it.1))
        (kid_only g j (parent_kid new g j (parent_kept j other ∙ is)))

    less_content : (j : ℕ) → ContainsKey s j → is_some (node_doc s j) ≡ not (node_child s j).folder
    less_content j live =
        let other : (j ≡ k → ⊥) = other_key j live in
        ap is_some (sym (l.doc.others j other)) ∙ new.contents j (l.live j other ∙ live) ∙ ap (λ (c : Child). not c.folder) (l.child.others j other)

    less_holder : (g j : ℕ) → node_parent s j ≡ Some g → (node_child s g).folder ≡ true
    less_holder g j is =
        let now : node_parent t j ≡ Some g = parent_kept j (has_other j g is) ∙ is in
        ap (λ (c : Child). c.folder) (sym (l.child.others g (λ itself. childless itself (parent_kid new g j now)))) ∙ new.holders g j now
      where
        childless : g ≡ k → In j (node_kids t g) → ⊥
        childless itself there = subst (λ ks. In j ks) l.bare (subst (λ h. In j (node_kids t h)) itself there)

    pub less_listed : (root ≡ k → ⊥) → AreListed s root
    less_listed other = record {
      sorted = less_sorted;
      children = λ g j. as_children s g j (less_parent g j) (less_kid g j);
      contents = less_content;
      holders = less_holder;
      root_live = sym (l.live root other) ∙ new.root_live;
      root_top = sym (parent_kept root other) ∙ new.root_top;
      root_folder = ap (λ (c : Child). c.folder) (sym (l.child.others root other)) ∙ new.root_folder;
    }

  pub leaf_of : (root : ℕ) → AreListed s root → AreListed t root → IsLeafMore s t root f k x.child
  leaf_of root old new = record {
    old = old;
    new = new;
    kept = kid_more;
    only = kid_only;
    here = (l.members k).1 (inl refl);
    fresh = l.fresh;
    bare = λ j there. subst (λ ks. In j ks) l.bare there;
    names = λ j other. l.child.others j other;
    name = l.child.here;
  }

  -- ---- links

  module _ (order : ℕ → List ℕ) (old : AreLinked s order) (rings : AreRings (node_next t) (node_prev t) (node_first t) (put_first f k order)) where
    more_member : (g i : ℕ) → In i (put_first f k order g) → node_parent t i ≡ Some g
    more_member g i there =
        ⊎_elim
        (λ it. ap (node_parent t) it.1 ∙ l.parent.here ∙ ap (λ h. Some h) (sym it.0))
        (λ was. let is : node_parent s i ≡ Some g = (old.members g i).0 was in parent_kept i (has_other i g is) ∙ is)
        (first_in order f k g i there)

    more_from : (g i : ℕ) → node_parent t i ≡ Some g → In i (put_first f k order g)
    more_from g i is =
        ⊎_elim
        (λ same. first_it order f k g i (one_of f g (node_parent t k) l.parent.here (ap (node_parent t) (sym same) ∙ is)) same)
        (λ other. first_from order f k g i ((old.members g i).1 (sym (parent_kept i other) ∙ is)))
        (cases_eq i k)

    more_held : (g i : ℕ) → node_parent t i ≡ Some g → ContainsKey t g
    more_held g i is =
        ⊎_elim
        (λ same.
        let folder : g ≡ f = one_of f g (node_parent t k) l.parent.here (ap (node_parent t) (sym same) ∙ is) in
        ap (λ h. is_some (get t h)) folder ∙ l.live f l.apart ∙ l.held)
        (λ other. let live : ContainsKey s g = old.held g i (sym (parent_kept i other) ∙ is) in l.live g (other_key g live) ∙ live)
        (cases_eq i k)

    pub more_linked : AreLinked t (put_first f k order)
    more_linked = record { rings = rings; members = λ g i. (more_member g i, more_from g i); held = more_held }

  module _ (order : ℕ → List ℕ) (new : AreLinked t order) (rings : AreRings (node_next s) (node_prev s) (node_first s) (taken_out f k order)) (out : (g : ℕ) → Lacks k (taken_out f k order g))
      (kids : (j : ℕ) → node_parent t j ≡ Some k → ⊥) where
    not_out : (g i : ℕ) → In i (taken_out f k order g) → i ≡ k → ⊥
    not_out g i there same = lacks_not k (taken_out f k order g) (out g) (subst (λ j. In j (taken_out f k order g)) same there)

    less_member : (g i : ℕ) → In i (taken_out f k order g) → node_parent s i ≡ Some g
    less_member g i there = sym (parent_kept i (not_out g i there)) ∙ (new.members g i).0 (out_in order f k g i there)

    less_from : (g i : ℕ) → node_parent s i ≡ Some g → In i (taken_out f k order g)
    less_from g i is =
        let other : (i ≡ k → ⊥) = has_other i g is in
        out_from order f k g i other ((new.members g i).1 (parent_kept i other ∙ is))

    less_held : (g i : ℕ) → node_parent s i ≡ Some g → ContainsKey s g
    less_held g i is =
        let now : node_parent t i ≡ Some g = parent_kept i (has_other i g is) ∙ is in
        sym (l.live g (λ same. kids i (now ∙ ap (λ h. Some h) same))) ∙ new.held g i now

    pub less_linked : AreLinked s (taken_out f k order)
    less_linked = record { rings = rings; members = λ g i. (less_member g i, less_from g i); held = less_held }

-- ---- rings where one key changes that is in none

pub no_ring : (n p : ℕ → ℕ) (ks : List ℕ) (first : Option ℕ) → first ≡ None → IsRing n p first ks → ks ≡ []
no_ring n p [] first none ring = refl
no_ring n p (i ∷ is) first none ring = absurd (cc (none, ring.0))

module _ (n p m q : ℕ → ℕ) (first now : ℕ → Option ℕ) (order : ℕ → List ℕ) (k v u : ℕ) (old : AreRings n p first order) (lacks : (g : ℕ) → Lacks k (order g)) (empty : first k ≡ None)
    (nm : ChangesAt n m k v) (pq : ChangesAt p q k u) (head : ChangesAt first now k None) where
  ring_apart : (g : ℕ) → IsRing m q (now g) (order g)
  ring_apart g =
      ⊎_elim
      (λ here.
      let none : order g ≡ [] = no_ring n p (order g) (first g) (ap first here ∙ empty) (old.rings g) in
      subst (λ ks. IsRing m q (now g) ks) (sym none) (ap now here ∙ head.here))
      (λ away.
      subst (λ o. IsRing m q o (order g)) (sym (head.others g away)) (other_ring n p m q k v k u nm pq (first g) (order g) (old.rings g) (lacks g) (lacks g)))
      (cases_eq g k)

  pub rings_apart : AreRings m q now order
  rings_apart = record { rings = ring_apart; apart = old.apart; lone = old.lone }
