-- A child among those of a folder, which stand in the order of their keys.
use Rattle.std.proofs.Common.{◌≡◌, ◌≤◌, ◌<◌, ℕ, zero, suc, ◌+◌, Bool, true, false, cond, List, [], ◌∷◌, map, length, get_or, find, Option, Some, None, Result, Ok, Err, arith, refl, sym, ap, ◌∙◌, subst, inl, inr}
use Rattle.std.specs.declared.cmp.Ordering.{Ordering}
use Rattle.std.specs.declared.cmp.Ordering.TheVariants.{Less, Equal, Greater}
use Rattle.std.specs.List.{list_all}
use Rattle.std.specs.List.Sorted.{IsSortedBy, IsBinarySearchResult, IsSearchInRange}
use Rattle.std.specs.Ordering.{is_lt, is_eq, ordering_reverse}
use Rattle.std.proofs.lemmas.Bool.{and_parts, cond-true, cond-false, true≢false, cases_lt}
use Rattle.std.proofs.lemmas.List.Sorted.{searchable_from_sorted}
use Rattle.rs_path.specs.declared.child.Child.{Child}
use Rattle.rs_path.specs.Children.{child_cmp, same_child}
use Rattle.rs_path.specs.ChildOrder.{same_child-Decides, child_cmp_total, child_ties}
use Rattle.rs_rules.specs.Laws.{is_sorted}
use Rattle.rs_chain.specs.Walks.{IsPlaceFor}

pub lt_less : (r : Ordering) → is_lt r ≡ true → r ≡ Less
lt_less Less low = refl
lt_less Equal low = absurd (true≢false (sym low))
lt_less Greater low = absurd (true≢false (sym low))

-- what the order of a child before c says of whether it is c
pub same_is : (x c : Child) (r : Ordering) → child_cmp x c ≡ r → same_child c x ≡ is_eq (ordering_reverse r)
same_is x c r is = child_ties c x ∙ ap is_eq (child_cmp_total.antisymm c x ∙ ap ordering_reverse is)

pub tied_same : (x c : Child) → child_cmp x c ≡ Equal → c ≡ x
tied_same x c tied = (same_child-Decides c x).0 (same_is x c Equal tied)

-- the key at a place that was found
abbrev pub kid : List ℕ → Result ℕ ℕ → Option ℕ
kid ks (Ok place) = Some (get_or ks place 0)
kid ks (Err place) = None

module _ (at : ℕ → Child) where
  -- each child passes
  all_at : (test : Child → Bool) (ks : List ℕ) (i d : ℕ) → list_all test (map at ks) ≡ true → i < length ks → test (at (get_or ks i d)) ≡ true
  all_at test [] i d each within = absurd (omega arith)
  all_at test (k ∷ ks) zero d each within = (and_parts (test (at k)) (list_all test (map at ks)) each).0
  all_at test (k ∷ ks) (suc i) d each within = all_at test ks i d (and_parts (test (at k)) (list_all test (map at ks)) each).1 (omega arith)

  -- the first comes before each other
  first_less : (k : ℕ) (ks : List ℕ) (i d : ℕ) → is_sorted (map at (k ∷ ks)) ≡ true → i < length ks → child_cmp (at k) (at (get_or ks i d)) ≡ Less
  first_less k ks i d sorted within =
      lt_less (child_cmp (at k) (at (get_or ks i d)))
      (all_at (λ other. is_lt (child_cmp (at k) other)) ks i d (and_parts (list_all (λ other. is_lt (child_cmp (at k) other)) (map at ks)) (is_sorted (map at ks)) sorted).0 within)

  rest_sorted : (k : ℕ) (ks : List ℕ) → is_sorted (map at (k ∷ ks)) ≡ true → is_sorted (map at ks) ≡ true
  rest_sorted k ks sorted = (and_parts (list_all (λ other. is_lt (child_cmp (at k) other)) (map at ks)) (is_sorted (map at ks)) sorted).1

  pub less_later : (ks : List ℕ) (i j d : ℕ) → is_sorted (map at ks) ≡ true → i < j → j < length ks → child_cmp (at (get_or ks i d)) (at (get_or ks j d)) ≡ Less
  less_later [] i j d sorted below within = absurd (omega arith)
  less_later (k ∷ ks) i zero d sorted below within = absurd (omega arith)
  less_later (k ∷ ks) zero (suc j) d sorted below within = first_less k ks j d sorted (omega arith)
  less_later (k ∷ ks) (suc i) (suc j) d sorted below within = less_later ks i j d (rest_sorted k ks sorted) (omega arith) (omega arith)

  as_sorted : (ks : List ℕ) → is_sorted (map at ks) ≡ true → IsSortedBy (λ a b. is_lt (child_cmp (at a) (at b))) ks
  as_sorted ks sorted k d low within =
      ap is_lt (child_cmp_total.antisymm (at (get_or ks (k + 1) d)) (at (get_or ks k d)) ∙ ap ordering_reverse (less_later ks k (k + 1) d sorted (omega arith) within))

  -- what is found
  pub found_at : (c : Child) (ks : List ℕ) (i d : ℕ) → is_sorted (map at ks) ≡ true → i < length ks → child_cmp (at (get_or ks i d)) c ≡ Equal
      → find (λ k. same_child c (at k)) ks ≡ Some (get_or ks i d)
  found_at c [] i d sorted within tied = absurd (omega arith)
  found_at c (k ∷ ks) zero d sorted within tied = cond-true (same_child c (at k)) (Some k) (find (λ j. same_child c (at j)) ks) (same_is (at k) c Equal tied)
  found_at c (k ∷ ks) (suc i) d sorted within tied =
      let inner : i < length ks = omega arith in
      let here : c ≡ at (get_or ks i d) = tied_same (at (get_or ks i d)) c tied in
      let less : child_cmp (at k) c ≡ Less = ap (child_cmp (at k)) here ∙ first_less k ks i d sorted inner in
      cond-false (same_child c (at k)) (Some k) (find (λ j. same_child c (at j)) ks) (same_is (at k) c Less less)
      ∙ found_at c ks i d (rest_sorted k ks sorted) inner tied

  none_at : (c : Child) (ks : List ℕ) → ((i d : ℕ) → i < length ks → same_child c (at (get_or ks i d)) ≡ false) → find (λ k. same_child c (at k)) ks ≡ None
  none_at c [] each = refl
  none_at c (k ∷ ks) each =
      cond-false (same_child c (at k)) (Some k) (find (λ j. same_child c (at j)) ks) (each 0 0 (omega arith))
      ∙ none_at c ks (λ i d within. each (suc i) d (omega (arith, within)))

  -- the place of the child, or where it would stand
  none_between : (c : Child) (ks : List ℕ) (place i d : ℕ) → ((k e : ℕ) → 0 ≤ k → k < place → child_cmp (at (get_or ks k e)) c ≡ Less)
      → ((k e : ℕ) → place ≤ k → k < length ks → child_cmp (at (get_or ks k e)) c ≡ Greater) → i < length ks → same_child c (at (get_or ks i d)) ≡ false
  none_between c ks place i d low high within =
      elim (cases_lt i place) [
        | inl before ↦ same_is (at (get_or ks i d)) c Less (low i d (omega arith) before)
        | inr after ↦ same_is (at (get_or ks i d)) c Greater (high i d after within)
      ]

  pub searched : (c : Child) (ks : List ℕ) (r : Result ℕ ℕ) → is_sorted (map at ks) ≡ true → IsSearchInRange r (length ks)
      → IsBinarySearchResult (λ k. child_cmp (at k) c) ks r → kid ks r ≡ find (λ k. same_child c (at k)) ks
  searched c ks (Ok place) sorted within result = sym (found_at c ks place 0 sorted within (result 0))
  searched c ks (Err place) sorted within result =
      let point = result (searchable_from_sorted child_cmp_total at ks c (as_sorted ks sorted)) in
      sym (none_at c ks (λ i d inner. none_between c ks place i d point.0 point.1 inner))

  -- the same of a list by another name
  pub searched_in : (c : Child) (kids ks : List ℕ) (r : Result ℕ ℕ) → kids ≡ ks → is_sorted (map at kids) ≡ true → IsSearchInRange r (length ks)
      → IsBinarySearchResult (λ k. child_cmp (at k) c) ks r → kid ks r ≡ find (λ k. same_child c (at k)) kids
  searched_in c kids ks r same sorted within result =
      searched c ks r (ap (λ l. is_sorted (map at l)) (sym same) ∙ sorted) within result ∙ ap (find (λ k. same_child c (at k))) (sym same)

  -- where no child was found, it would stand
  pub stands_at : (c : Child) (kids ks : List ℕ) (place : ℕ) → kids ≡ ks → is_sorted (map at kids) ≡ true → IsSearchInRange (Err place) (length ks)
      → IsBinarySearchResult (λ k. child_cmp (at k) c) ks (Err place) → IsPlaceFor at kids c place
  stands_at c kids ks place same sorted within result =
      let point = result (searchable_from_sorted child_cmp_total at ks c (as_sorted ks (ap (λ l. is_sorted (map at l)) (sym same) ∙ sorted))) in
      subst (λ l. IsPlaceFor at l c place) (sym same)
      (record {
        bound = within;
        low = λ i d before. point.0 i d (omega arith) before;
        high = λ i d after inner. point.1 i d after inner;
      })
