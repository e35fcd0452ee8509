-- The first that passes a test, in lists of keys in order: where one key more was put in, and in two lists as one.
use Rattle.std.proofs.Common.{◌≡◌, Bool, true, false, ◌&&◌, cond, List, [], ◌∷◌, fold, filter, map, Option, Some, None, refl, sym, ap, ◌∙◌, subst, ⊎_elim}
use Rattle.std.specs.Prelude.{find}
use Rattle.std.specs.List.{AllByRecursion}
use Rattle.std.specs.List.Sorted.{IsStrictlySortedBy}
use Rattle.std.specs.declared.cmp.Ordering.{Ordering}
use Rattle.std.specs.declared.cmp.Ordering.TheVariants.{Less, Equal, Greater}
use Rattle.std.specs.Ordering.{match_ordering, is_lt, is_eq, ordering_reverse}
use Rattle.std.specs.BTreeSet.{insert_key}
use Rattle.std.specs.Cmp.{tied_itself}
use Rattle.std.proofs.lemmas.Bool.{cases_Bool, cond-true, cond-false}
use Rattle.rs_path.specs.Paths.{Path, same_path, path_cmp}
use Rattle.rs_path.specs.PathOrder.{path_cmp_total, path_ties}
use Rattle.rs_cache.specs.Firsts.{lesser_path}
use Rattle.rs_cache.proofs.EntryLemmas.{same_from}

-- ---- order

abbrev pub AllBehind : Path → List Path → Type 0
AllBehind p qs = AllByRecursion (λ q. path_cmp p q ≡ Less) qs

pub behind_all : (p q : Path) (rs : List Path) → path_cmp p q ≡ Less → AllBehind q rs → AllBehind p rs
behind_all p q [] low all = tt
behind_all p q (r ∷ rs) low all = (path_cmp_total.trans p q r low all.0, behind_all p q rs low all.1)

pub tied_same : (p q : Path) → path_cmp p q ≡ Equal → p ≡ q
tied_same p q tied = same_from p q (path_ties p q ∙ ap is_eq tied)

pub turned_less : (p q : Path) → path_cmp p q ≡ Greater → path_cmp q p ≡ Less
turned_less p q greater = path_cmp_total.antisymm q p ∙ ap ordering_reverse greater

turned_greater : (p q : Path) → path_cmp p q ≡ Less → path_cmp q p ≡ Greater
turned_greater p q less = path_cmp_total.antisymm q p ∙ ap ordering_reverse less

all_insert : (P : Path → Type 0) (k : Path) (xs : List Path) → AllByRecursion P xs → P k → AllByRecursion P (insert_key path_cmp xs k)
all_insert P k [] all here = (here, tt)
all_insert P k (x ∷ xs) all here = by (path_cmp k x) (all_insert P k xs all.1 here)
  where
    by : (r : Ordering) → AllByRecursion P (insert_key path_cmp xs k) → AllByRecursion P (match_ordering r (k ∷ x ∷ xs) (x ∷ xs) (x ∷ insert_key path_cmp xs k))
    by Less rest = (here, all)
    by Equal rest = all
    by Greater rest = (all.0, rest)

insert_sorted : (k x : Path) (xs : List Path) → IsStrictlySortedBy path_cmp (x ∷ xs) → (r : Ordering) → path_cmp k x ≡ r
    → IsStrictlySortedBy path_cmp (insert_key path_cmp xs k)
    → IsStrictlySortedBy path_cmp (match_ordering r (k ∷ x ∷ xs) (x ∷ xs) (x ∷ insert_key path_cmp xs k))
unfolding IsStrictlySortedBy
insert_sorted k x xs sorted Less is rest = ((is, behind_all k x xs is sorted.0), sorted)
insert_sorted k x xs sorted Equal is rest = sorted
insert_sorted k x xs sorted Greater is rest = (all_insert (λ y. path_cmp x y ≡ Less) k xs sorted.0 (turned_less k x is), rest)

sorted_insert : (k : Path) (xs : List Path) → IsStrictlySortedBy path_cmp xs → IsStrictlySortedBy path_cmp (insert_key path_cmp xs k)
unfolding IsStrictlySortedBy
sorted_insert k [] sorted = (tt, tt)
sorted_insert k (x ∷ xs) sorted = insert_sorted k x xs sorted (path_cmp k x) refl (sorted_insert k xs sorted.1)

pub sorted-fold : (xs ys : List Path) → IsStrictlySortedBy path_cmp xs → IsStrictlySortedBy path_cmp (fold (insert_key path_cmp) xs ys)
sorted-fold xs [] sorted = sorted
sorted-fold xs (y ∷ ys) sorted = sorted-fold (insert_key path_cmp xs y) ys (sorted_insert y xs sorted)

-- ---- the lesser of two

abbrev only : (Path → Bool) → Path → Option Path
only test k = cond (test k) (Some k) None

lesser-none : (o : Option Path) → lesser_path o None ≡ o
lesser-none None = refl
lesser-none (Some p) = refl

least_by : (test : Path → Bool) (k x : Path) (xs : List Path) (t : Bool) → test x ≡ t → path_cmp k x ≡ Less
    → lesser_path (Some k) (find test xs) ≡ Some k → lesser_path (Some k) (cond t (Some x) (find test xs)) ≡ Some k
least_by test k x xs true is low rest = ap (λ r. cond (is_lt r) (Some k) (Some x)) low
least_by test k x xs false is low rest = rest

-- what comes before a list is less than what passes in it
least_first : (test : Path → Bool) (k : Path) (xs : List Path) → AllBehind k xs → lesser_path (Some k) (find test xs) ≡ Some k
least_first test k [] all = refl
least_first test k (x ∷ xs) all = least_by test k x xs (test x) refl all.0 (least_first test k xs all.1)

own_lesser : (b : Bool) (p : Path) → cond b (Some p) (Some p) ≡ Some p
own_lesser true p = refl
own_lesser false p = refl

-- ---- one more

before_first : (test : Path → Bool) (k : Path) (xs : List Path) (t : Bool) → AllBehind k xs
    → cond t (Some k) (find test xs) ≡ lesser_path (cond t (Some k) None) (find test xs)
before_first test k xs true all = sym (least_first test k xs all)
before_first test k xs false all = refl

at_first : (test : Path → Bool) (x : Path) (xs : List Path) (t : Bool)
    → cond t (Some x) (find test xs) ≡ lesser_path (cond t (Some x) None) (cond t (Some x) (find test xs))
at_first test x xs true = sym (own_lesser (is_lt (path_cmp x x)) x)
at_first test x xs false = refl

past_by : (k x : Path) (here there : Bool) (f g : Option Path) → path_cmp k x ≡ Greater → g ≡ lesser_path (cond here (Some k) None) f
    → cond there (Some x) g ≡ lesser_path (cond here (Some k) None) (cond there (Some x) f)
past_by k x true true f g greater rest = sym (ap (λ r. cond (is_lt r) (Some k) (Some x)) greater)
past_by k x false true f g greater rest = refl
past_by k x here false f g greater rest = rest

insert_by : (test : Path → Bool) (k x : Path) (xs : List Path) (r : Ordering) → path_cmp k x ≡ r → AllBehind x xs
    → find test (insert_key path_cmp xs k) ≡ lesser_path (only test k) (find test xs)
    → find test (match_ordering r (k ∷ x ∷ xs) (x ∷ xs) (x ∷ insert_key path_cmp xs k)) ≡ lesser_path (only test k) (find test (x ∷ xs))
insert_by test k x xs Less is all rest = before_first test k (x ∷ xs) (test k) (is, behind_all k x xs is all)
insert_by test k x xs Equal is all rest =
    at_first test x xs (test x) ∙ ap (λ p. lesser_path (only test p) (find test (x ∷ xs))) (sym (tied_same k x is))
insert_by test k x xs Greater is all rest = past_by k x (test k) (test x) (find test xs) (find test (insert_key path_cmp xs k)) is rest

find-insert : (test : Path → Bool) (k : Path) (xs : List Path) → IsStrictlySortedBy path_cmp xs
    → find test (insert_key path_cmp xs k) ≡ lesser_path (only test k) (find test xs)
unfolding IsStrictlySortedBy
find-insert test k [] sorted = sym (lesser-none (only test k))
find-insert test k (x ∷ xs) sorted = insert_by test k x xs (path_cmp k x) refl sorted.0 (find-insert test k xs sorted.1)

-- ---- two lists as one

turn_by : (test : Path → Bool) (a b : Path) (bs : List Path) (r : Ordering) → path_cmp b a ≡ r → AllBehind b bs
    → lesser_path (cond (is_lt r) (Some b) (Some a)) (find test bs) ≡ cond (is_lt (path_cmp a b)) (Some a) (Some b)
turn_by test a b bs Less is all =
    least_first test b bs all ∙ sym (ap (λ r. cond (is_lt r) (Some a) (Some b)) (turned_greater b a is))
turn_by test a b bs Equal is all =
    ap (λ p. lesser_path (Some p) (find test bs)) (sym (tied_same b a is)) ∙ least_first test b bs all
    ∙ sym (own_lesser (is_lt (path_cmp a b)) b) ∙ ap (λ p. cond (is_lt (path_cmp a b)) (Some p) (Some b)) (tied_same b a is)
turn_by test a b bs Greater is all =
    let low = turned_less b a is in
    least_first test a bs (behind_all a b bs low all) ∙ sym (ap (λ r. cond (is_lt r) (Some a) (Some b)) low)

turn_here : (test : Path → Bool) (b : Path) (bs : List Path) (o : Option Path) → AllBehind b bs
    → lesser_path (lesser_path (Some b) o) (find test bs) ≡ lesser_path o (Some b)
turn_here test b bs None all = least_first test b bs all
turn_here test b bs (Some a) all = turn_by test a b bs (path_cmp b a) refl all

turn : (test : Path → Bool) (b : Path) (bs : List Path) (o : Option Path) (t : Bool) → AllBehind b bs
    → lesser_path (lesser_path (cond t (Some b) None) o) (find test bs) ≡ lesser_path o (cond t (Some b) (find test bs))
turn test b bs o true all = turn_here test b bs o all
turn test b bs o false all = refl

-- what passes first of two lists put together is the lesser of what passes first in each
pub find-both : (test : Path → Bool) (xs ys : List Path) → IsStrictlySortedBy path_cmp xs → IsStrictlySortedBy path_cmp ys
    → find test (fold (insert_key path_cmp) xs ys) ≡ lesser_path (find test xs) (find test ys)
unfolding IsStrictlySortedBy
find-both test xs [] sorted both = sym (lesser-none (find test xs))
find-both test xs (y ∷ ys) sorted both =
    find-both test (insert_key path_cmp xs y) ys (sorted_insert y xs sorted) both.1
    ∙ ap (λ o. lesser_path o (find test ys)) (find-insert test y xs sorted)
    ∙ turn test y ys (find test xs) (test y) both.0

-- ---- filters

filtered_by : {X : Type 0} (p q : X → Bool) (x : X) (xs : List X) (t : Bool) → find p (filter q xs) ≡ find (λ y. q y && p y) xs
    → find p (cond t (x ∷ filter q xs) (filter q xs)) ≡ cond (t && p x) (Some x) (find (λ y. q y && p y) xs)
filtered_by p q x xs true rest = ap (cond (p x) (Some x)) rest
filtered_by p q x xs false rest = rest

-- the first that passes both tests
pub find-filter : {X : Type 0} (p q : X → Bool) (xs : List X) → find p (filter q xs) ≡ find (λ x. q x && p x) xs
find-filter p q [] = refl
find-filter p q (x ∷ xs) = filtered_by p q x xs (q x) (find-filter p q xs)

pub find-same : {X : Type 0} (p q : X → Bool) (xs : List X) → ((x : X) → p x ≡ q x) → find p xs ≡ find q xs
find-same p q [] same = refl
find-same p q (x ∷ xs) same = ap (λ b. cond b (Some x) (find p xs)) (same x) ∙ ap (cond (q x) (Some x)) (find-same p q xs same)

keys_by : {X : Type 0} (test : Path → Bool) (e : Path × X) (es : List (Path × X)) (t : Bool)
    → map (λ (x : Path × X). x.0) (filter (λ (x : Path × X). test x.0) es) ≡ filter test (map (λ (x : Path × X). x.0) es)
    → map (λ (x : Path × X). x.0) (cond t (e ∷ filter (λ (x : Path × X). test x.0) es) (filter (λ (x : Path × X). test x.0) es))
    ≡ cond t (e.0 ∷ filter test (map (λ (x : Path × X). x.0) es)) (filter test (map (λ (x : Path × X). x.0) es))
keys_by test e es true rest = ap (λ l. e.0 ∷ l) rest
keys_by test e es false rest = rest

-- the keys of entries whose keys pass are the keys that pass
pub keys-filter : {X : Type 0} (test : Path → Bool) (es : List (Path × X))
    → map (λ (x : Path × X). x.0) (filter (λ (x : Path × X). test x.0) es) ≡ filter test (map (λ (x : Path × X). x.0) es)
keys-filter test [] = refl
keys-filter test (e ∷ es) = keys_by test e es (test e.0) (keys-filter test es)
