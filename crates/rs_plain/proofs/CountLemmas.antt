-- How many keys a list of keys has, each once.
use Rattle.std.proofs.Common.{◌≡◌, ◌+◌, ◌≤◌, Bool, true, false, ◌||◌, cond, List, [], ◌∷◌, length, fold, arith, refl, sym, ap, ◌∙◌}
use Rattle.std.specs.List.{list_any, AllByRecursion}
use Rattle.std.specs.List.Sorted.{IsStrictlySortedBy}
use Rattle.std.specs.declared.cmp.Ordering.{Ordering}
use Rattle.std.specs.declared.cmp.Ordering.TheVariants.{Less, Equal, Greater}
use Rattle.std.specs.Ordering.{match_ordering, eq_by_cmp, is_eq, ordering_reverse}
use Rattle.std.specs.Cmp.{IsTotalOrder}
use Rattle.std.specs.BTreeSet.{insert_key}

module _ {K : Type 0} (cmp : K → K → Ordering) (o : IsTotalOrder cmp) where
  above_all : (k x : K) (xs : List K) → cmp k x ≡ Less → AllByRecursion (λ y. cmp x y ≡ Less) xs → AllByRecursion (λ y. cmp k y ≡ Less) xs
  above_all k x [] low all = tt
  above_all k x (y ∷ ys) low all = (o.trans k x y low all.0, above_all k x ys low all.1)

  none_equal : (k : K) (xs : List K) → AllByRecursion (λ y. cmp k y ≡ Less) xs → list_any (eq_by_cmp cmp k) xs ≡ false
  none_equal k [] all = refl
  none_equal k (x ∷ xs) all = ap (λ r. is_eq r || list_any (eq_by_cmp cmp k) xs) all.0 ∙ none_equal k xs all.1

  all_insert : (P : K → Type 0) (k : K) (xs : List K) → AllByRecursion P xs → P k → AllByRecursion P (insert_key cmp xs k)
  all_insert P k [] all here = (here, tt)
  all_insert P k (x ∷ xs) all here = by (cmp k x) (all_insert P k xs all.1 here)
    where
      by : (r : Ordering) → AllByRecursion P (insert_key cmp xs k) → AllByRecursion P (match_ordering r (k ∷ x ∷ xs) (x ∷ xs) (x ∷ insert_key cmp xs k))
      by Less rest = (here, all)
      by Equal rest = all
      by Greater rest = (all.0, rest)

  insert_sorted : (k x : K) (xs : List K) → IsStrictlySortedBy cmp (x ∷ xs) → (r : Ordering) → cmp k x ≡ r → IsStrictlySortedBy cmp (insert_key cmp xs k)
      → IsStrictlySortedBy cmp (match_ordering r (k ∷ x ∷ xs) (x ∷ xs) (x ∷ insert_key cmp xs k))
  unfolding IsStrictlySortedBy
  insert_sorted k x xs sorted Less is rest = ((is, above_all k x xs is sorted.0), sorted)
  insert_sorted k x xs sorted Equal is rest = sorted
  insert_sorted k x xs sorted Greater is rest = (all_insert (λ y. cmp x y ≡ Less) k xs sorted.0 (o.antisymm x k ∙ ap ordering_reverse is), rest)

  pub sorted_insert : (k : K) (xs : List K) → IsStrictlySortedBy cmp xs → IsStrictlySortedBy cmp (insert_key cmp xs k)
  unfolding IsStrictlySortedBy
  sorted_insert k [] sorted = (tt, tt)
  sorted_insert k (x ∷ xs) sorted = insert_sorted k x xs sorted (cmp k x) refl (sorted_insert k xs sorted.1)

  longer : (k x : K) (xs : List K) → length (k ∷ x ∷ xs) ≡ length (x ∷ xs) + 1
  longer k x xs = omega arith

  grown : (x : K) (xs ys : List K) (b : Bool) → length ys ≡ cond b (length xs) (length xs + 1) → length (x ∷ ys) ≡ cond b (length (x ∷ xs)) (length (x ∷ xs) + 1)
  grown x xs ys true same = let as_long : length ys ≡ length xs = same in omega (arith, as_long)
  grown x xs ys false same = let one_longer : length ys ≡ length xs + 1 = same in omega (arith, one_longer)

  insert_length : (k x : K) (xs : List K) → AllByRecursion (λ y. cmp x y ≡ Less) xs → (r : Ordering) → cmp k x ≡ r
      → length (insert_key cmp xs k) ≡ cond (list_any (eq_by_cmp cmp k) xs) (length xs) (length xs + 1)
      → length (match_ordering r (k ∷ x ∷ xs) (x ∷ xs) (x ∷ insert_key cmp xs k)) ≡ cond (is_eq r || list_any (eq_by_cmp cmp k) xs) (length (x ∷ xs)) (length (x ∷ xs) + 1)
  insert_length k x xs above Less is rest =
      longer k x xs ∙ sym (ap (λ b. cond b (length (x ∷ xs)) (length (x ∷ xs) + 1)) (none_equal k xs (above_all k x xs is above)))
  insert_length k x xs above Equal is rest = refl
  insert_length k x xs above Greater is rest = grown x xs (insert_key cmp xs k) (list_any (eq_by_cmp cmp k) xs) rest

  pub length_insert : (k : K) (xs : List K) → IsStrictlySortedBy cmp xs → length (insert_key cmp xs k) ≡ cond (list_any (eq_by_cmp cmp k) xs) (length xs) (length xs + 1)
  unfolding IsStrictlySortedBy
  length_insert k [] sorted = omega arith
  length_insert k (x ∷ xs) sorted = insert_length k x xs sorted.0 (cmp k x) refl (length_insert k xs sorted.1)

  or_swap : (a b c : Bool) → (a || (b || c)) ≡ (b || (a || c))
  or_swap true true c = refl
  or_swap true false c = refl
  or_swap false b c = refl

  or_same : (a b c : Bool) → a ≡ b → (b || c) ≡ (a || (b || c))
  or_same true b c same = ap (λ t. t || c) (sym same)
  or_same false b c same = refl

  -- which keys are there
  pub any_insert : (q k : K) (xs : List K) → list_any (eq_by_cmp cmp q) (insert_key cmp xs k) ≡ (eq_by_cmp cmp q k || list_any (eq_by_cmp cmp q) xs)
  any_insert q k [] = refl
  any_insert q k (x ∷ xs) = by (cmp k x) refl (any_insert q k xs)
    where
      tied : cmp k x ≡ Equal → eq_by_cmp cmp q k ≡ eq_by_cmp cmp q x
      tied is = ap is_eq (o.antisymm q k ∙ ap ordering_reverse (o.congr k x q is) ∙ sym (o.antisymm q x))

      by : (r : Ordering) → cmp k x ≡ r → list_any (eq_by_cmp cmp q) (insert_key cmp xs k) ≡ (eq_by_cmp cmp q k || list_any (eq_by_cmp cmp q) xs)
          → list_any (eq_by_cmp cmp q) (match_ordering r (k ∷ x ∷ xs) (x ∷ xs) (x ∷ insert_key cmp xs k)) ≡ (eq_by_cmp cmp q k || list_any (eq_by_cmp cmp q) (x ∷ xs))
      by Less is rest = refl
      by Equal is rest = or_same (eq_by_cmp cmp q k) (eq_by_cmp cmp q x) (list_any (eq_by_cmp cmp q) xs) (tied is)
      by Greater is rest = ap (λ b. eq_by_cmp cmp q x || b) rest ∙ or_swap (eq_by_cmp cmp q x) (eq_by_cmp cmp q k) (list_any (eq_by_cmp cmp q) xs)

  -- ---- many keys, one after another

  pub sorted_none : IsStrictlySortedBy cmp []
  unfolding IsStrictlySortedBy
  sorted_none = tt

  pub sorted_fold : (xs ks : List K) → IsStrictlySortedBy cmp ks → IsStrictlySortedBy cmp (fold (insert_key cmp) ks xs)
  sorted_fold [] ks sorted = sorted
  sorted_fold (x ∷ xs) ks sorted = sorted_fold xs (insert_key cmp ks x) (sorted_insert x ks sorted)

  or_move : (a b c : Bool) → (a || (b || c)) ≡ ((b || a) || c)
  or_move true true c = refl
  or_move true false c = refl
  or_move false true c = refl
  or_move false false c = refl

  pub any_fold : (q : K) (xs ks : List K) → list_any (eq_by_cmp cmp q) (fold (insert_key cmp) ks xs) ≡ (list_any (eq_by_cmp cmp q) xs || list_any (eq_by_cmp cmp q) ks)
  any_fold q [] ks = refl
  any_fold q (x ∷ xs) ks =
      any_fold q xs (insert_key cmp ks x) ∙ ap (λ b. list_any (eq_by_cmp cmp q) xs || b) (any_insert q x ks)
      ∙ or_move (list_any (eq_by_cmp cmp q) xs) (eq_by_cmp cmp q x) (list_any (eq_by_cmp cmp q) ks)
