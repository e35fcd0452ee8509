-- All rings, with a child taken out of one, and with a child put first into one.
use Rattle.std.proofs.Common.{◌≡◌, ◌⊎◌, ℕ, ◌==◌, cond, List, [], ◌∷◌, Option, Some, None, refl, sym, ap, ◌∙◌, subst, inl, inr, ⊎_elim, eq-eqb, ne_eqb}
use Rattle.std.proofs.lemmas.Bool.{cond-true, cond-false, cases_eq}
use Rattle.rs_chain.specs.Nodes.{ChangesAt}
use Rattle.rs_chain.specs.Rings.{In, Lacks, Apart, without_key, Joined, IsRing, AreRings, with_ring, taken_out, put_first, first_without}
use Rattle.rs_chain.proofs.RingLemmas.{lacks_not, lacks_if, without_in, without_apart, other_ring, ring_before, ring_after, ring_without, ring_with}

module _ (f : ℕ) (ring : List ℕ) (order : ℕ → List ℕ) where
  pub with_ring_here : (g : ℕ) → g ≡ f → with_ring f ring order g ≡ ring
  with_ring_here g here = cond-true (g == f) ring (order g) (eq-eqb g f here)

  pub with_ring_other : (g : ℕ) → (g ≡ f → ⊥) → with_ring f ring order g ≡ order g
  with_ring_other g other = cond-false (g == f) ring (order g) (ne_eqb g f other)

  -- no ring but the folder's is another
  pub with_ring_in : (g j : ℕ) → In j (with_ring f ring order g) → ((g ≡ f) × In j ring) ⊎ ((g ≡ f → ⊥) × In j (order g))
  with_ring_in g j there =
      ⊎_elim
      (λ here. inl (here, subst (λ l. In j l) (with_ring_here g here) there))
      (λ other. inr (other, subst (λ l. In j l) (with_ring_other g other) there))
      (cases_eq g f)

  pub with_ring_apart : ((g : ℕ) → Apart (order g)) → Apart ring → (g : ℕ) → Apart (with_ring f ring order g)
  with_ring_apart apart one g =
      ⊎_elim
      (λ here. subst (λ l. Apart l) (sym (with_ring_here g here)) one)
      (λ other. subst (λ l. Apart l) (sym (with_ring_other g other)) (apart g))
      (cases_eq g f)

  -- a ring is one where its first and its order are told
  told : (m q : ℕ → ℕ) (first now : ℕ → Option ℕ) (o : Option ℕ) → ChangesAt first now f o → IsRing m q o ring
      → ((g : ℕ) → (g ≡ f → ⊥) → IsRing m q (first g) (order g)) → (g : ℕ) → IsRing m q (now g) (with_ring f ring order g)
  told m q first now o moved one each g =
      ⊎_elim
      (λ here.
      subst (λ l. IsRing m q (now g) l) (sym (with_ring_here g here)) (subst (λ t. IsRing m q t ring) (sym (ap now here ∙ moved.here)) one))
      (λ other.
      subst (λ l. IsRing m q (now g) l) (sym (with_ring_other g other)) (subst (λ t. IsRing m q t (order g)) (sym (moved.others g other)) (each g other)))
      (cases_eq g f)

module _ (n p m q : ℕ → ℕ) (first now : ℕ → Option ℕ) (order : ℕ → List ℕ) (f x : ℕ) (old : AreRings n p first order) (there : In x (order f)) (nm : ChangesAt n m (p x) (n x)) (pq : ChangesAt p q (n x) (p x)) (head : ChangesAt first now f (first_without (first f) x (n x))) where
  ring_still : (g : ℕ) → (g ≡ f → ⊥) → IsRing m q (first g) (order g)
  ring_still g other =
      other_ring n p m q (p x) (n x) (n x) (p x) nm pq (first g) (order g) (old.rings g)
      (lacks_if (p x) (order g) (λ here. other (old.lone g f (p x) here (ring_before n p x (first f) (order f) (old.rings f) there))))
      (lacks_if (n x) (order g) (λ here. other (old.lone g f (n x) here (ring_after n p x (first f) (order f) (old.rings f) there))))

  fewer : (g j : ℕ) → In j (taken_out f x order g) → In j (order g)
  fewer g j here =
      ⊎_elim
      (λ one. subst (λ h. In j (order h)) (sym one.0) (without_in j x (order f) one.1))
      (λ other. other.1)
      (with_ring_in f (without_key x (order f)) order g j here)

  pub rings_without : AreRings m q now (taken_out f x order)
  rings_without = record {
    rings = told f (without_key x (order f)) order m q first now (first_without (first f) x (n x)) head
        (ring_without n p m q x nm pq (first f) (order f) (old.rings f) (old.apart f) there) ring_still;
    apart = with_ring_apart f (without_key x (order f)) order old.apart (without_apart x (order f) (old.apart f));
    lone = λ g h j one two. old.lone g h j (fewer g j one) (fewer h j two);
  }

module _ (order : ℕ → List ℕ) (f x : ℕ) (fresh : (g : ℕ) → Lacks x (order g)) where
  never : (g j : ℕ) → j ≡ x → In j (order g) → ⊥
  never g j same there = lacks_not x (order g) (fresh g) (subst (λ k. In k (order g)) same there)

  more : (g j : ℕ) → In j (put_first f x order g) → ((g ≡ f) × (j ≡ x)) ⊎ In j (order g)
  more g j here =
      ⊎_elim
      (λ one. ⊎_elim (λ it. inl (one.0, it)) (λ rest. inr (subst (λ h. In j (order h)) (sym one.0) rest)) one.1)
      (λ other. inr other.1)
      (with_ring_in f (x ∷ order f) order g j here)

  pub lone_with : ((g h j : ℕ) → In j (order g) → In j (order h) → g ≡ h) → (g h j : ℕ) → In j (put_first f x order g) → In j (put_first f x order h) → g ≡ h
  lone_with lone g h j one two =
      ⊎_elim
      (λ a. ⊎_elim (λ b. a.0 ∙ sym b.0) (λ b. absurd (never h j a.1 b)) (more h j two))
      (λ a. ⊎_elim (λ b. absurd (never g j b.1 a)) (λ b. lone g h j a b) (more h j two))
      (more g j one)

-- into an empty ring
module _ (n p m q : ℕ → ℕ) (first now : ℕ → Option ℕ) (order : ℕ → List ℕ) (f x : ℕ) (old : AreRings n p first order) (fresh : (g : ℕ) → Lacks x (order g)) (empty : first f ≡ None) (nm : ChangesAt n m x x) (pq : ChangesAt p q x x) (head : ChangesAt first now f (Some x)) where
  no_ring : (ks : List ℕ) → IsRing n p (first f) ks → ks ≡ []
  no_ring [] ring = refl
  no_ring (k ∷ ks) ring = absurd (cc)

  pub rings_alone : AreRings m q now (put_first f x order)
  rings_alone =
      let none : order f ≡ [] = no_ring (order f) (old.rings f) in
      record {
        rings = told f (x ∷ order f) order m q first now (Some x) head
            (subst (λ l. IsRing m q (Some x) (x ∷ l)) (sym none) (refl, (nm.here, pq.here)))
            (λ g other. other_ring n p m q x x x x nm pq (first g) (order g) (old.rings g) (fresh g) (fresh g));
        apart = with_ring_apart f (x ∷ order f) order old.apart (fresh f, old.apart f);
        lone = lone_with order f x fresh old.lone;
      }

-- into a ring that has a first
module _ (n p n1 p1 m q : ℕ → ℕ) (first now : ℕ → Option ℕ) (order : ℕ → List ℕ) (f x i : ℕ) (old : AreRings n p first order) (fresh : (g : ℕ) → Lacks x (order g)) (is_first : first f ≡ Some i) (nn : ChangesAt n n1 (p i) x) (pp : ChangesAt p p1 x (p i)) (nm : ChangesAt n1 m x i) (pq : ChangesAt p1 q i x) (head : ChangesAt first now f (Some x)) where
  in_ring : (ks : List ℕ) → IsRing n p (first f) ks → In i ks
  in_ring [] ring = absurd (cc)
  in_ring (k ∷ ks) ring = let same : i ≡ k = cc in inl same

  with_it : (ks : List ℕ) → IsRing n p (first f) ks → Apart ks → Lacks x ks → IsRing m q (Some x) (x ∷ ks)
  with_it [] ring apart lacks = absurd (cc)
  with_it (k ∷ ks) ring apart lacks =
      let same : k ≡ i = cc in
      let way : Joined n p i ks i = subst (λ y. Joined n p y ks y) same ring.1 in
      let apart_i : Apart (i ∷ ks) = subst (λ y. Apart (y ∷ ks)) same apart in
      let lacks_i : Lacks x (i ∷ ks) = subst (λ y. Lacks x (y ∷ ks)) same lacks in
      subst (λ y. IsRing m q (Some x) (x ∷ y ∷ ks)) (sym same) (ring_with n p n1 p1 m q x i (p i) refl nn pp nm pq ks way apart_i lacks_i)

  ring_kept : (g : ℕ) → (g ≡ f → ⊥) → IsRing m q (first g) (order g)
  ring_kept g other =
      let here : In i (order f) = in_ring (order f) (old.rings f) in
      let first_away = lacks_if i (order g) (λ there. other (old.lone g f i there here)) in
      let last_away = lacks_if (p i) (order g) (λ there. other (old.lone g f (p i) there (ring_before n p i (first f) (order f) (old.rings f) here))) in
      other_ring n1 p1 m q x i i x nm pq (first g) (order g)
      (other_ring n p n1 p1 (p i) x x (p i) nn pp (first g) (order g) (old.rings g) last_away (fresh g)) (fresh g) first_away

  pub rings_with : AreRings m q now (put_first f x order)
  rings_with = record {
    rings = told f (x ∷ order f) order m q first now (Some x) head (with_it (order f) (old.rings f) (old.apart f) (fresh f)) ring_kept;
    apart = with_ring_apart f (x ∷ order f) order old.apart (fresh f, old.apart f);
    lone = lone_with order f x fresh old.lone;
  }

-- the first of a folder's ring is in it
pub first_there : (n p : ℕ → ℕ) (first : ℕ → Option ℕ) (order : ℕ → List ℕ) (f i : ℕ) → AreRings n p first order → first f ≡ Some i → In i (order f)
first_there n p first order f i old is = by (order f) (old.rings f)
  where
    by : (ks : List ℕ) → IsRing n p (first f) ks → In i ks
    by [] ring = absurd (cc)
    by (k ∷ ks) ring = let same : i ≡ k = cc in inl same
