-- Lists of keys with one more, and with one fewer.
use Rattle.std.proofs.Common.{◌≡◌, ◌⊎◌, ◌<◌, ◌≤◌, ℕ, zero, suc, ◌+◌, Bool, true, false, List, [], ◌∷◌, ◌++◌, map, length, take, drop, get_or, insert, remove, arith, refl, sym, ap, ◌∙◌, subst, inl, inr, ⊎_elim}
use Rattle.std.specs.declared.cmp.Ordering.{Ordering}
use Rattle.std.specs.declared.cmp.Ordering.TheVariants.{Less, Equal, Greater}
use Rattle.std.specs.List.{list_all}
use Rattle.std.specs.Ordering.{is_lt, ordering_reverse}
use Rattle.std.specs.Cmp.{tied_itself}
use Rattle.std.proofs.lemmas.Bool.{and_parts, and_from}
use Rattle.rs_path.specs.declared.child.Child.{Child}
use Rattle.rs_path.specs.Children.{child_cmp}
use Rattle.rs_path.specs.ChildOrder.{child_cmp_total}
use Rattle.rs_rules.specs.Laws.{is_sorted}
use Rattle.rs_chain.specs.Rings.{In}
use Rattle.rs_chain.specs.Walks.{IsPlaceFor}
use Rattle.rs_chain.proofs.PlaceLemmas.{lt_less}

-- ---- which keys there are

pub insert_in : (j k : ℕ) (ks : List ℕ) (place : ℕ) → In j (insert ks place k) → (j ≡ k) ⊎ In j ks
insert_in j k [] zero there = there
insert_in j k [] (suc place) there = there
insert_in j k (x ∷ xs) zero there = there
insert_in j k (x ∷ xs) (suc place) there =
    ⊎_elim
    (λ here. inr (inl here))
    (λ rest. ⊎_elim (λ it. inl it) (λ old. inr (inr old)) (insert_in j k xs place rest))
    there

pub insert_it : (k : ℕ) (ks : List ℕ) (place : ℕ) → In k (insert ks place k)
insert_it k [] zero = inl refl
insert_it k [] (suc place) = inl refl
insert_it k (x ∷ xs) zero = inl refl
insert_it k (x ∷ xs) (suc place) = inr (insert_it k xs place)

pub insert_old : (j k : ℕ) (ks : List ℕ) (place : ℕ) → In j ks → In j (insert ks place k)
insert_old j k [] place there = absurd there
insert_old j k (x ∷ xs) zero there = inr there
insert_old j k (x ∷ xs) (suc place) there = ⊎_elim (λ here. inl here) (λ rest. inr (insert_old j k xs place rest)) there

pub remove_in : (j : ℕ) (ks : List ℕ) (place : ℕ) → In j (remove ks place) → In j ks
remove_in j [] zero there = there
remove_in j [] (suc place) there = there
remove_in j (x ∷ xs) zero there = inr there
remove_in j (x ∷ xs) (suc place) there = ⊎_elim (λ here. inl here) (λ rest. inr (remove_in j xs place rest)) there

pub remove_old : (j : ℕ) (ks : List ℕ) (place : ℕ) → place < length ks → In j ks → (j ≡ get_or ks place 0) ⊎ In j (remove ks place)
remove_old j [] place within there = absurd there
remove_old j (x ∷ xs) zero within there = there
remove_old j (x ∷ xs) (suc place) within there =
    ⊎_elim
    (λ here. inr (inl here))
    (λ rest. ⊎_elim (λ it. inl it) (λ left. inr (inr left)) (remove_old j xs place (omega arith) rest))
    there

-- ---- their order

module _ (at : ℕ → Child) where
  all_insert : (test : Child → Bool) (k : ℕ) (ks : List ℕ) (place : ℕ) → list_all test (map at ks) ≡ true → test (at k) ≡ true → list_all test (map at (insert ks place k)) ≡ true
  all_insert test k [] zero each it = and_from _ _ it refl
  all_insert test k [] (suc place) each it = and_from _ _ it refl
  all_insert test k (x ∷ xs) zero each it = and_from _ _ it each
  all_insert test k (x ∷ xs) (suc place) each it =
      let parts = and_parts (test (at x)) (list_all test (map at xs)) each in
      and_from _ _ parts.0 (all_insert test k xs place parts.1 it)

  -- a list after a child
  after_all : (c : Child) (ks : List ℕ) → ((i d : ℕ) → i < length ks → child_cmp (at (get_or ks i d)) c ≡ Greater) → list_all (λ other. is_lt (child_cmp c other)) (map at ks) ≡ true
  after_all c [] high = refl
  after_all c (x ∷ xs) high =
      and_from _ _ (ap is_lt (child_cmp_total.antisymm c (at x) ∙ ap ordering_reverse (high 0 0 (omega arith))))
      (after_all c xs (λ i d within. high (suc i) d (omega (arith, within))))

  pub sorted_insert : (k : ℕ) (ks : List ℕ) (place : ℕ) → is_sorted (map at ks) ≡ true → IsPlaceFor at ks (at k) place → is_sorted (map at (insert ks place k)) ≡ true
  sorted_insert k [] zero sorted place_for = refl
  sorted_insert k [] (suc place) sorted place_for = refl
  sorted_insert k (x ∷ xs) zero sorted place_for =
      and_from _ _ (after_all (at k) (x ∷ xs) (λ i d within. place_for.high i d (omega arith) within)) sorted
  sorted_insert k (x ∷ xs) (suc place) sorted place_for =
      let parts = and_parts (list_all (λ other. is_lt (child_cmp (at x) other)) (map at xs)) (is_sorted (map at xs)) sorted in
      let bound = place_for.bound in
      and_from _ _ (all_insert (λ other. is_lt (child_cmp (at x) other)) k xs place parts.0 (ap is_lt (place_for.low 0 0 (omega arith))))
      (sorted_insert k xs place parts.1
      (record {
        bound = omega (arith, bound);
        low = λ i d before. place_for.low (suc i) d (omega (arith, before));
        high = λ i d after within. place_for.high (suc i) d (omega (arith, after)) (omega (arith, within));
      }))

  all_remove : (test : Child → Bool) (ks : List ℕ) (place : ℕ) → list_all test (map at ks) ≡ true → list_all test (map at (remove ks place)) ≡ true
  all_remove test [] zero each = refl
  all_remove test [] (suc place) each = refl
  all_remove test (x ∷ xs) zero each = (and_parts (test (at x)) (list_all test (map at xs)) each).1
  all_remove test (x ∷ xs) (suc place) each =
      let parts = and_parts (test (at x)) (list_all test (map at xs)) each in
      and_from _ _ parts.0 (all_remove test xs place parts.1)

  pub sorted_remove : (ks : List ℕ) (place : ℕ) → is_sorted (map at ks) ≡ true → is_sorted (map at (remove ks place)) ≡ true
  sorted_remove [] zero sorted = refl
  sorted_remove [] (suc place) sorted = refl
  sorted_remove (x ∷ xs) zero sorted = (and_parts (list_all (λ other. is_lt (child_cmp (at x) other)) (map at xs)) (is_sorted (map at xs)) sorted).1
  sorted_remove (x ∷ xs) (suc place) sorted =
      let parts = and_parts (list_all (λ other. is_lt (child_cmp (at x) other)) (map at xs)) (is_sorted (map at xs)) sorted in
      and_from _ _ (all_remove (λ other. is_lt (child_cmp (at x) other)) xs place parts.0) (sorted_remove xs place parts.1)

  -- the first is before each other
  before_in : (c : Child) (j : ℕ) (ks : List ℕ) → list_all (λ other. is_lt (child_cmp c other)) (map at ks) ≡ true → In j ks → child_cmp c (at j) ≡ Less
  before_in c j [] each there = absurd there
  before_in c j (x ∷ xs) each there =
      let parts = and_parts (is_lt (child_cmp c (at x))) (list_all (λ other. is_lt (child_cmp c other)) (map at xs)) each in
      ⊎_elim
      (λ here. ap (λ i. child_cmp c (at i)) here ∙ lt_less (child_cmp c (at x)) parts.0)
      (λ rest. before_in c j xs parts.1 rest)
      there

  not_itself : (c : Child) → child_cmp c c ≡ Less → ⊥
  not_itself c less = let tied : Equal ≡ Less = sym (tied_itself child_cmp_total c) ∙ less in absurd (cc)

  get_in : (ks : List ℕ) (i : ℕ) → i < length ks → In (get_or ks i 0) ks
  get_in [] i within = absurd (omega arith)
  get_in (k ∷ ks) zero within = inl refl
  get_in (k ∷ ks) (suc i) within = inr (get_in ks i (omega arith))

  -- no key stands twice
  pub remove_gone : (ks : List ℕ) (place : ℕ) → is_sorted (map at ks) ≡ true → place < length ks → In (get_or ks place 0) (remove ks place) → ⊥
  remove_gone [] place sorted within there = absurd (omega arith)
  remove_gone (x ∷ xs) zero sorted within there =
      let parts = and_parts (list_all (λ other. is_lt (child_cmp (at x) other)) (map at xs)) (is_sorted (map at xs)) sorted in
      not_itself (at x) (before_in (at x) x xs parts.0 there)
  remove_gone (x ∷ xs) (suc place) sorted within there =
      let parts = and_parts (list_all (λ other. is_lt (child_cmp (at x) other)) (map at xs)) (is_sorted (map at xs)) sorted in
      let inner : place < length xs = omega arith in
      ⊎_elim
      (λ here. not_itself (at x) (ap (λ i. child_cmp (at x) (at i)) (sym here) ∙ before_in (at x) (get_or xs place 0) xs parts.0 (get_in xs place inner)))
      (λ rest. remove_gone xs place parts.1 inner rest)
      there

-- ---- a place where names are other functions

in_any : (ks : List ℕ) (i d : ℕ) → i < length ks → In (get_or ks i d) ks
in_any [] i d within = absurd (omega arith)
in_any (k ∷ ks) zero d within = inl refl
in_any (k ∷ ks) (suc i) d within = inr (in_any ks i d (omega arith))

pub place_moves : (at now : ℕ → Child) (ks : List ℕ) (c d : Child) (place : ℕ) → d ≡ c → ((j : ℕ) → In j ks → now j ≡ at j) → IsPlaceFor at ks c place → IsPlaceFor now ks d place
place_moves at now ks c d place same names place_for =
    let bound = place_for.bound in
    record {
      bound = bound;
      low = λ i e before.
          ap (λ x. child_cmp x d) (names (get_or ks i e) (in_any ks i e (omega (arith, bound, before)))) ∙ ap (child_cmp (at (get_or ks i e))) same ∙ place_for.low i e before;
      high = λ i e after within.
          ap (λ x. child_cmp x d) (names (get_or ks i e) (in_any ks i e within)) ∙ ap (child_cmp (at (get_or ks i e))) same ∙ place_for.high i e after within;
    }
