-- A ring with a child taken out, and with a child put first.
use Rattle.std.proofs.Common.{◌≡◌, ◌≢◌, ◌⊎◌, ℕ, ◌==◌, cond, List, [], ◌∷◌, Option, Some, None, refl, sym, ap, ◌∙◌, subst, inl, inr, ⊎_elim, eq-eqb, ne_eqb}
use Rattle.std.proofs.lemmas.Bool.{cond-true, cond-false, cases_eq}
use Rattle.rs_chain.specs.Nodes.{ChangesAt}
use Rattle.rs_chain.specs.Rings.{In, Lacks, Apart, without_key, Joined, IsRing, first_without}

-- ---- what is in a list, and what isn't

pub lacks_not : (i : ℕ) (ks : List ℕ) → Lacks i ks → In i ks → ⊥
lacks_not i [] lacks there = there
lacks_not i (k ∷ ks) lacks there = ⊎_elim (λ here. lacks.0 here) (λ rest. lacks_not i ks lacks.1 rest) there

pub lacks_if : (i : ℕ) (ks : List ℕ) → (In i ks → ⊥) → Lacks i ks
lacks_if i [] never = tt
lacks_if i (k ∷ ks) never = (λ same. never (inl same), lacks_if i ks (λ there. never (inr there)))

pub differs : (i k : ℕ) (ks : List ℕ) → Lacks i ks → In k ks → i ≡ k → ⊥
differs i k ks lacks there same = lacks_not i ks lacks (subst (λ j. In j ks) (sym same) there)

-- ---- without a key

without_here : (i k : ℕ) (ks : List ℕ) → i ≡ k → without_key i (k ∷ ks) ≡ ks
without_here i k ks here = cond-true (i == k) ks (k ∷ without_key i ks) (eq-eqb i k here)

without_later : (i k : ℕ) (ks : List ℕ) → (i ≡ k → ⊥) → without_key i (k ∷ ks) ≡ k ∷ without_key i ks
without_later i k ks other = cond-false (i == k) ks (k ∷ without_key i ks) (ne_eqb i k other)

pub without_in : (j i : ℕ) (ks : List ℕ) → In j (without_key i ks) → In j ks
without_in j i [] there = there
without_in j i (k ∷ ks) there =
    ⊎_elim
    (λ here. inr (subst (λ l. In j l) (without_here i k ks here) there))
    (λ other. ⊎_elim (λ same. inl same) (λ rest. inr (without_in j i ks rest)) (subst (λ l. In j l) (without_later i k ks other) there))
    (cases_eq i k)

pub without_lacks : (j i : ℕ) (ks : List ℕ) → Lacks j ks → Lacks j (without_key i ks)
without_lacks j i ks lacks = lacks_if j (without_key i ks) (λ there. lacks_not j ks lacks (without_in j i ks there))

pub without_apart : (i : ℕ) (ks : List ℕ) → Apart ks → Apart (without_key i ks)
without_apart i [] apart = tt
without_apart i (k ∷ ks) apart =
    ⊎_elim
    (λ here. subst (λ l. Apart l) (sym (without_here i k ks here)) apart.1)
    (λ other. subst (λ l. Apart l) (sym (without_later i k ks other)) (without_lacks k i ks apart.0, without_apart i ks apart.1))
    (cases_eq i k)

-- it is gone
pub without_it : (i : ℕ) (ks : List ℕ) → Apart ks → Lacks i (without_key i ks)
without_it i [] apart = tt
without_it i (k ∷ ks) apart =
    ⊎_elim
    (λ here. subst (λ l. Lacks i l) (sym (without_here i k ks here)) (subst (λ j. Lacks j ks) (sym here) apart.0))
    (λ other. subst (λ l. Lacks i l) (sym (without_later i k ks other)) (other, without_it i ks apart.1))
    (cases_eq i k)

-- each other stays
pub without_other : (j i : ℕ) (ks : List ℕ) → (j ≡ i → ⊥) → In j ks → In j (without_key i ks)
without_other j i [] other there = there
without_other j i (k ∷ ks) other there =
    ⊎_elim
    (λ here. subst (λ l. In j l) (sym (without_here i k ks here)) (⊎_elim (λ same. absurd (other (same ∙ sym here))) (λ rest. rest) there))
    (λ later. subst (λ l. In j l) (sym (without_later i k ks later)) (⊎_elim (λ same. inl same) (λ rest. inr (without_other j i ks other rest)) there))
    (cases_eq i k)

-- ---- the neighbours of a key

module _ (n p : ℕ → ℕ) where
  last_in : (a : ℕ) (is : List ℕ) (z : ℕ) → Joined n p a is z → In (p z) (a ∷ is)
  last_in a [] z j = inl j.1
  last_in a (i ∷ is) z j = inr (last_in i is z j.2)

  first_in : (a : ℕ) (is : List ℕ) (z : ℕ) → Joined n p a is z → In (n a) is ⊎ (n a ≡ z)
  first_in a [] z j = inr j.0
  first_in a (i ∷ is) z j = inl (inl j.0)

  before_in : (x a : ℕ) (is : List ℕ) (z : ℕ) → Joined n p a is z → In x is → In (p x) (a ∷ is)
  before_in x a [] z j there = absurd there
  before_in x a (k ∷ ks) z j there =
      ⊎_elim (λ here. inl (ap p here ∙ j.1)) (λ rest. inr (before_in x k ks z j.2 rest)) there

  after_first : (x k : ℕ) (ks : List ℕ) (z : ℕ) → x ≡ k → Joined n p k ks z → In (n x) (k ∷ ks) ⊎ (n x ≡ z)
  after_first x k ks z here j =
      ⊎_elim
      (λ within. inl (inr (subst (λ m. In m ks) (ap n (sym here)) within)))
      (λ stop. inr (ap n here ∙ stop))
      (first_in k ks z j)

  after_in : (x a : ℕ) (is : List ℕ) (z : ℕ) → Joined n p a is z → In x is → In (n x) is ⊎ (n x ≡ z)
  after_in x a [] z j there = absurd there
  after_in x a (k ∷ ks) z j there =
      ⊎_elim
      (λ here. after_first x k ks z here j.2)
      (λ rest. ⊎_elim (λ within. inl (inr within)) (λ stop. inr stop) (after_in x k ks z j.2 rest))
      there

  pub ring_before : (x : ℕ) (first : Option ℕ) (ks : List ℕ) → IsRing n p first ks → In x ks → In (p x) ks
  ring_before x first [] ring there = there
  ring_before x first (i ∷ is) ring there =
      ⊎_elim
      (λ here. subst (λ m. In m (i ∷ is)) (ap p (sym here)) (last_in i is i ring.1))
      (λ rest. before_in x i is i ring.1 rest)
      there

  pub ring_after : (x : ℕ) (first : Option ℕ) (ks : List ℕ) → IsRing n p first ks → In x ks → In (n x) ks
  ring_after x first [] ring there = there
  ring_after x first (i ∷ is) ring there =
      ⊎_elim
      (λ here. ⊎_elim (λ within. within) (λ stop. inl stop) (after_first x i is i here ring.1))
      (λ rest. ⊎_elim (λ within. inr within) (λ stop. inl stop) (after_in x i is i ring.1 rest))
      there

-- ---- one link moved

module _ (n p m q : ℕ → ℕ) (k v l u : ℕ) (nm : ChangesAt n m k v) (pq : ChangesAt p q l u) where
  -- a way that doesn't pass the two keys
  pub away : (a : ℕ) (is : List ℕ) (z : ℕ) → Joined n p a is z → Lacks k (a ∷ is) → Lacks l is → (z ≡ l → ⊥) → Joined m q a is z
  away a [] z j next prev stop = (nm.others a (λ same. next.0 (sym same)) ∙ j.0, pq.others z stop ∙ j.1)
  away a (i ∷ is) z j next prev stop = (
    nm.others a (λ same. next.0 (sym same)) ∙ j.0,
    pq.others i (λ same. prev.0 (sym same)) ∙ j.1,
    away i is z j.2 next.1 prev.1 stop,
  )

  -- a ring that has neither key
  pub other_ring : (first : Option ℕ) (ks : List ℕ) → IsRing n p first ks → Lacks k ks → Lacks l ks → IsRing m q first ks
  other_ring first [] ring next prev = ring
  other_ring first (i ∷ is) ring next prev = (ring.0, away i is i ring.1 next prev.1 (λ same. prev.0 (sym same)))

module _ (n p m q : ℕ → ℕ) (z w e : ℕ) (last : p z ≡ e) (nm : ChangesAt n m e w) (pq : ChangesAt p q w e) where
  -- the way ends at w in place of z
  pub turned : (a : ℕ) (is : List ℕ) → Joined n p a is z → Lacks a is → Apart is → Lacks w is → Joined m q a is w
  turned a [] j first apart stop = (ap m (sym j.1 ∙ last) ∙ nm.here, pq.here ∙ sym last ∙ j.1)
  turned a (i ∷ is) j first apart stop = (
    nm.others a (differs a e (i ∷ is) first (subst (λ y. In y (i ∷ is)) last (last_in n p i is z j.2))) ∙ j.0,
    pq.others i (λ same. stop.0 (sym same)) ∙ j.1,
    turned i is j.2 apart.0 apart.1 stop.1,
  )

-- ---- a child taken out

module _ (n p m q : ℕ → ℕ) (x : ℕ) (nm : ChangesAt n m (p x) (n x)) (pq : ChangesAt p q (n x) (p x)) where
  -- x is the next after a
  skipped : (k a : ℕ) (ks : List ℕ) (z : ℕ) → x ≡ k → Joined n p a (k ∷ ks) z → Lacks a (k ∷ ks) → Apart (k ∷ ks) → Lacks z (k ∷ ks) → Joined m q a ks z
  skipped k a [] z here j first apart stop =
      let before : p x ≡ a = ap p here ∙ j.1 in
      let after : n x ≡ z = ap n here ∙ j.2.0 in (
        ap m (sym before) ∙ nm.here ∙ after,
        ap q (sym after) ∙ pq.here ∙ before,
      )
  skipped k a (i ∷ is) z here j first apart stop =
      let before : p x ≡ a = ap p here ∙ j.1 in
      let after : n x ≡ i = ap n here ∙ j.2.0 in (
        ap m (sym before) ∙ nm.here ∙ after,
        ap q (sym after) ∙ pq.here ∙ before,
        away n p m q (p x) (n x) (n x) (p x) nm pq i is z j.2.2 (subst (λ b. Lacks b (i ∷ is)) (sym before) first.1)
            (subst (λ b. Lacks b is) (sym after) apart.1.0) (λ same. stop.1.0 (same ∙ after)),
      )

  -- x is on the way from a to z
  passed : (a : ℕ) (is : List ℕ) (z : ℕ) → Joined n p a is z → In x is → Lacks a is → Apart is → Lacks z is → Joined m q a (without_key x is) z
  passed a [] z j there first apart stop = absurd there
  passed a (k ∷ ks) z j there first apart stop =
      ⊎_elim
      (λ here. subst (λ l. Joined m q a l z) (sym (without_here x k ks here)) (skipped k a ks z here j first apart stop))
      (λ rest.
      let other : (x ≡ k → ⊥) = λ same. lacks_not k ks apart.0 (subst (λ y. In y ks) same rest) in
      let apart_next : (k ≡ n x → ⊥) = λ same. ⊎_elim
      (λ within. lacks_not k ks apart.0 (subst (λ y. In y ks) (sym same) within))
      (λ halt. stop.0 (sym (same ∙ halt)))
      (after_in n p x k ks z j.2 rest) in
      let way : Joined m q a (k ∷ without_key x ks) z = (
        nm.others a (differs a (p x) (k ∷ ks) first (before_in n p x k ks z j.2 rest)) ∙ j.0,
        pq.others k apart_next ∙ j.1,
        passed k ks z j.2 rest apart.0 apart.1 stop.1,
      ) in
      subst (λ l. Joined m q a l z) (sym (without_later x k ks other)) way)
      there

  -- the first is taken out
  first_gone : (i : ℕ) (is : List ℕ) → x ≡ i → Joined n p i is i → Apart (i ∷ is) → IsRing m q (first_without (Some i) x (n x)) is
  first_gone i [] here j apart =
      cond-true (i == x) _ _ (eq-eqb i x (sym here)) ∙ cond-true (n x == x) _ _ (eq-eqb (n x) x (ap n here ∙ j.0 ∙ sym here))
  first_gone i (k ∷ ks) here j apart =
      let after : n x ≡ k = ap n here ∙ j.0 in
      let other : (n x ≡ x → ⊥) = λ same. apart.0.0 (sym here ∙ sym same ∙ after) in (
        cond-true (i == x) _ _ (eq-eqb i x (sym here)) ∙ cond-false (n x == x) _ _ (ne_eqb (n x) x other) ∙ ap (λ y. Some y) after,
        subst (λ w. Joined m q k ks w) after
            (turned n p m q i (n x) (p x) (ap p (sym here)) nm pq k ks j.2 apart.1.0 apart.1.1 (subst (λ w. Lacks w ks) (sym after) apart.1.0)),
      )

  later_gone : (i : ℕ) (is : List ℕ) → In x is → Joined n p i is i → Apart (i ∷ is) → IsRing m q (first_without (Some i) x (n x)) (i ∷ without_key x is)
  later_gone i is rest j apart = (
    cond-false (i == x) _ _ (ne_eqb i x (differs i x is apart.0 rest)),
    passed i is i j rest apart.0 apart.1 apart.0,
  )

  pub ring_without : (first : Option ℕ) (ks : List ℕ) → IsRing n p first ks → Apart ks → In x ks → IsRing m q (first_without first x (n x)) (without_key x ks)
  ring_without first [] ring apart there = absurd there
  ring_without first (i ∷ is) ring apart there =
      subst (λ o. IsRing m q (first_without o x (n x)) (without_key x (i ∷ is))) (sym ring.0)
      (⊎_elim
      (λ here. subst (λ l. IsRing m q (first_without (Some i) x (n x)) l) (sym (without_here x i is here)) (first_gone i is here ring.1 apart))
      (λ rest.
      let other : (x ≡ i → ⊥) = λ same. lacks_not i is apart.0 (subst (λ y. In y is) same rest) in
      subst (λ l. IsRing m q (first_without (Some i) x (n x)) l) (sym (without_later x i is other)) (later_gone i is rest ring.1 apart))
      there)

-- ---- a child put first

module _ (n p n1 p1 m q : ℕ → ℕ) (x i e : ℕ) (last : p i ≡ e) (nn : ChangesAt n n1 e x) (pp : ChangesAt p p1 x e) (nm : ChangesAt n1 m x i) (pq : ChangesAt p1 q i x) where
  pub ring_with : (is : List ℕ) → Joined n p i is i → Apart (i ∷ is) → Lacks x (i ∷ is) → IsRing m q (Some x) (x ∷ i ∷ is)
  ring_with is j apart lacks = (
    refl,
    (
      nm.here,
      pq.here,
      away n1 p1 m q x i i x nm pq i is x (turned n p n1 p1 i x e last nn pp i is j apart.0 apart.1 lacks.1) lacks apart.0 lacks.0,
    ),
  )
