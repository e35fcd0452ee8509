-- The children of a folder: each once, in order, and just those that lead to a document.
use Rattle.std.proofs.Common.{◌≡◌, ℕ, Bool, true, false, not, ◌||◌, List, [], ◌∷◌, ◌++◌, fold, Option, Some, None, refl, sym, ap, ◌∙◌, ⊎_elim, find}
use Rattle.std.specs.declared.cmp.Ordering.{Ordering}
use Rattle.std.specs.declared.cmp.Ordering.TheVariants.{Less, Equal, Greater}
use Rattle.std.specs.List.{list_any, list_all, filter_map, cons_option}
use Rattle.std.specs.Option.{is_some, option_map}
use Rattle.std.specs.Ordering.{is_eq, is_lt, match_ordering, ordering_reverse}
use Rattle.std.specs.Cmp.{both_ways}
use Rattle.std.specs.BTreeSet.{insert_key}
use Rattle.std.specs.Str.{bytes_eq}
use Rattle.std.proofs.lemmas.Bool.{cases_Bool, cond-true, cond-false, and_parts, and_from, true≢false}
use Rattle.std.proofs.lemmas.Slice.Eq.{bytes_eq-Decides}
use Rattle.rs_path.specs.declared.child.Child.{Child}
use Rattle.rs_path.specs.Paths.{Path, same_path}
use Rattle.rs_path.specs.Below.{is_below, is_inside}
use Rattle.rs_path.specs.Children.{child_cmp, same_child, child_at, child_from, child_towards}
use Rattle.rs_path.specs.ChildOrder.{same_child-Decides, child_cmp_total, child_ties}
use Rattle.rs_path.proofs.Cited.{child_towards-leads, child_towards-child_at}
use Rattle.rs_rules.specs.declared.placed.Placed.{Placed}
use Rattle.rs_rules.specs.Documents.{doc_in, has_below}
use Rattle.rs_rules.specs.Contents.{paths_in}
use Rattle.rs_rules.specs.Listings.{children}
use Rattle.rs_rules.specs.Laws.{is_sorted, is_child}
use Rattle.rs_rules.specs.Sound.{are_documents}
use Rattle.rs_rules.proofs.DocLemmas.{same_itself, same_from}

-- ---- one child more

or_twice : (a b : Bool) → (a || b) ≡ (a || (a || b))
or_twice true b = refl
or_twice false b = refl

or_swap : (a b c : Bool) → (a || (b || c)) ≡ (b || (a || c))
or_swap true true c = refl
or_swap true false c = refl
or_swap false true c = refl
or_swap false false c = refl

tied_same : (k x : Child) → child_cmp k x ≡ Equal → k ≡ x
tied_same k x tied = (same_child-Decides k x).0 (child_ties k x ∙ ap is_eq tied)

any-insert : (c k : Child) (ks : List Child) → list_any (same_child c) (insert_key child_cmp ks k) ≡ (same_child c k || list_any (same_child c) ks)
any-insert c k [] = refl
any-insert c k (x ∷ xs) =
    elim (child_cmp k x) as (λ r. child_cmp k x ≡ r
    → list_any (same_child c) (match_ordering r (k ∷ x ∷ xs) (x ∷ xs) (x ∷ insert_key child_cmp xs k)) ≡ (same_child c k || (same_child c x || list_any (same_child c) xs))) [
      | Less ↦ λ less. refl
      | Equal ↦ λ tied. or_twice (same_child c x) (list_any (same_child c) xs)
          ∙ ap (λ y. same_child c y || (same_child c x || list_any (same_child c) xs)) (sym (tied_same k x tied))
      | Greater ↦ λ more. ap (λ b. same_child c x || b) (any-insert c k xs) ∙ or_swap (same_child c x) (same_child c k) (list_any (same_child c) xs)
    ]
    refl

pub all-insert : (test : Child → Bool) (k : Child) (ks : List Child) → test k ≡ true → list_all test ks ≡ true → list_all test (insert_key child_cmp ks k) ≡ true
all-insert test k [] one each = and_from _ _ one refl
all-insert test k (x ∷ xs) one each =
    let parts = and_parts (test x) (list_all test xs) each in
    elim (child_cmp k x) as (λ r. list_all test (match_ordering r (k ∷ x ∷ xs) (x ∷ xs) (x ∷ insert_key child_cmp xs k)) ≡ true)
    [ Less ↦ and_from _ _ one each | Equal ↦ each | Greater ↦ and_from _ _ parts.0 (all-insert test k xs one parts.1) ]

lt_less : (r : Ordering) → is_lt r ≡ true → r ≡ Less
lt_less Less low = refl
lt_less Equal low = absurd (true≢false (sym low))
lt_less Greater low = absurd (true≢false (sym low))

all_above : (k x : Child) (xs : List Child) → child_cmp k x ≡ Less → list_all (λ other. is_lt (child_cmp x other)) xs ≡ true
    → list_all (λ other. is_lt (child_cmp k other)) xs ≡ true
all_above k x [] less each = refl
all_above k x (y ∷ ys) less each =
    let parts = and_parts (is_lt (child_cmp x y)) (list_all (λ other. is_lt (child_cmp x other)) ys) each in
    and_from _ _ (ap is_lt (child_cmp_total.trans k x y less (lt_less (child_cmp x y) parts.0))) (all_above k x ys less parts.1)

sorted-insert : (k : Child) (ks : List Child) → is_sorted ks ≡ true → is_sorted (insert_key child_cmp ks k) ≡ true
sorted-insert k [] sorted = refl
sorted-insert k (x ∷ xs) sorted =
    let parts = and_parts (list_all (λ other. is_lt (child_cmp x other)) xs) (is_sorted xs) sorted in
    elim (child_cmp k x) as (λ r. child_cmp k x ≡ r → is_sorted (match_ordering r (k ∷ x ∷ xs) (x ∷ xs) (x ∷ insert_key child_cmp xs k)) ≡ true) [
      | Less ↦ λ less. and_from _ _ (and_from _ _ (ap is_lt less) (all_above k x xs less parts.0)) sorted
      | Equal ↦ λ tied. sorted
      | Greater ↦ λ more.
          let low : child_cmp x k ≡ Less = child_cmp_total.antisymm x k ∙ ap ordering_reverse more in
          and_from _ _ (all-insert (λ other. is_lt (child_cmp x other)) k xs (ap is_lt low) parts.0) (sorted-insert k xs parts.1)
    ]
    refl

-- ---- all children

or_assoc : (a b c : Bool) → (a || (b || c)) ≡ (b || a || c)
or_assoc true true c = refl
or_assoc true false c = refl
or_assoc false true c = refl
or_assoc false false c = refl

any-fold : (c : Child) (ks xs : List Child) → list_any (same_child c) (fold (insert_key child_cmp) ks xs) ≡ (list_any (same_child c) ks || list_any (same_child c) xs)
any-fold c ks [] = or_none (list_any (same_child c) ks)
  where
    or_none : (b : Bool) → b ≡ (b || false)
    or_none true = refl
    or_none false = refl
any-fold c ks (x ∷ xs) =
    any-fold c (insert_key child_cmp ks x) xs
    ∙ ap (λ b. b || list_any (same_child c) xs) (any-insert c x ks)
    ∙ sym (or_assoc (list_any (same_child c) ks) (same_child c x) (list_any (same_child c) xs))

sorted-fold : (ks xs : List Child) → is_sorted ks ≡ true → is_sorted (fold (insert_key child_cmp) ks xs) ≡ true
sorted-fold ks [] sorted = sorted
sorted-fold ks (x ∷ xs) sorted = sorted-fold (insert_key child_cmp ks x) xs (sorted-insert x ks sorted)

any-cons_option : (c : Child) (o : Option Child) (xs : List Child) → list_any (same_child c) (cons_option o xs) ≡ (is_child c o || list_any (same_child c) xs)
any-cons_option c None xs = refl
any-cons_option c (Some x) xs = refl

any-towards : (f : Path) (c : Child) (paths : List Path) → list_any (same_child c) (filter_map (child_towards f) paths) ≡ list_any (λ p. is_child c (child_towards f p)) paths
any-towards f c [] = refl
any-towards f c (p ∷ ps) =
    any-cons_option c (child_towards f p) (filter_map (child_towards f) ps) ∙ ap (λ b. is_child c (child_towards f p) || b) (any-towards f c ps)

-- a child is listed just where a path leads to it
pub children-members : (f : Path) (paths : List Path) (c : Child) → list_any (same_child c) (children f paths) ≡ list_any (λ p. is_child c (child_towards f p)) paths
children-members f paths c = any-fold c [] (filter_map (child_towards f) paths) ∙ any-towards f c paths

-- children ascend, so each stands there once
pub children-sorted : (f : Path) (paths : List Path) → is_sorted (children f paths) ≡ true
children-sorted f paths = sorted-fold [] (filter_map (child_towards f) paths) refl

-- ---- documents and folders

is_child-same : (c : Child) (o : Option Child) → is_child c o ≡ true → o ≡ Some c
is_child-same c None there = absurd (true≢false (sym there))
is_child-same c (Some d) there = ap Some (sym ((same_child-Decides c d).0 there))

is_child-itself : (c : Child) (o : Option Child) → o ≡ Some c → is_child c o ≡ true
is_child-itself c o same = ap (is_child c) same ∙ (same_child-Decides c c).1 refl

document_child : (f : Path) (c : Child) (p : Path) → c.folder ≡ false → is_child c (child_towards f p) ≡ same_path (child_at f c) p
document_child f c p document =
    both_ways (is_child c (child_towards f p)) (same_path (child_at f c) p)
    (λ there. ⊎_elim
    (λ whole. ap (same_path (child_at f c)) (sym whole) ∙ same_itself (child_at f c))
    (λ below. absurd (true≢false (sym (and_parts c.folder (is_inside (child_at f c).names p.names) below).0 ∙ document)))
    (child_towards-leads f p c (is_child-same c (child_towards f p) there)))
    (λ same. is_child-itself c (child_towards f p) (ap (child_towards f) (sym (same_from (child_at f c) p same)) ∙ child_towards-child_at f c))

towards_inside : (ms ns : List (List ℕ)) (n : List ℕ) (folder : Bool) → is_inside (ms ++ n ∷ []) ns ≡ true → child_from ms ns folder ≡ Some (record { name = n; folder = true })
towards_inside [] [] n folder inside = absurd (true≢false (sym inside))
towards_inside [] (m ∷ []) n folder inside = absurd (true≢false (sym (and_parts (bytes_eq n m) false inside).1))
towards_inside [] (m ∷ (k ∷ ns)) n folder inside =
    let same : n ≡ m = (bytes_eq-Decides n m).0 (and_parts (bytes_eq n m) true inside).0 in
    ap (λ name. Some (record { name = name; folder = true })) (sym same)
towards_inside (m ∷ ms) [] n folder inside = absurd (true≢false (sym inside))
towards_inside (m ∷ ms) (k ∷ ns) n folder inside =
    let parts = and_parts (bytes_eq m k) (is_inside (ms ++ n ∷ []) ns) inside in
    cond-true (bytes_eq m k) (child_from ms ns folder) None parts.0 ∙ towards_inside ms ns n folder parts.1

folder_child : (f : Path) (c : Child) (p : Path) → c.folder ≡ true → p.folder ≡ false → is_child c (child_towards f p) ≡ is_below (child_at f c) p
folder_child f c p folder document =
    both_ways (is_child c (child_towards f p)) (is_below (child_at f c) p)
    (λ there. ⊎_elim
    (λ whole. absurd (true≢false (sym folder ∙ ap (λ (q : Path). q.folder) whole ∙ document)))
    (λ below. below)
    (child_towards-leads f p c (is_child-same c (child_towards f p) there)))
    (λ below. is_child-itself c (child_towards f p)
    (towards_inside f.names p.names c.name p.folder (and_parts c.folder (is_inside (child_at f c).names p.names) below).1
    ∙ ap (λ b. Some (record { name = c.name; folder = b })) (sym folder)))

pub is_some-found : (q : Path) (ds : List Placed) → is_some (doc_in q ds) ≡ list_any (λ (d : Placed). same_path q d.path) ds
is_some-found q [] = refl
is_some-found q (d ∷ ds) =
    ⊎_elim
    (λ here. ap (λ (o : Option Placed). is_some (option_map (λ (e : Placed). e.doc) o)) (cond-true (same_path q d.path) (Some d) (find (λ (e : Placed). same_path q e.path) ds) here)
    ∙ sym (ap (λ b. b || list_any (λ (e : Placed). same_path q e.path) ds) here))
    (λ other. ap (λ (o : Option Placed). is_some (option_map (λ (e : Placed). e.doc) o)) (cond-false (same_path q d.path) (Some d) (find (λ (e : Placed). same_path q e.path) ds) other)
    ∙ is_some-found q ds ∙ sym (ap (λ b. b || list_any (λ (e : Placed). same_path q e.path) ds) other))
    (cases_Bool (same_path q d.path))

document_members : (f : Path) (c : Child) (ds : List Placed) → c.folder ≡ false
    → list_any (λ p. is_child c (child_towards f p)) (paths_in ds) ≡ list_any (λ (d : Placed). same_path (child_at f c) d.path) ds
document_members f c [] document = refl
document_members f c (d ∷ ds) document =
    ap (λ b. b || list_any (λ p. is_child c (child_towards f p)) (paths_in ds)) (document_child f c d.path document)
    ∙ ap (λ b. same_path (child_at f c) d.path || b) (document_members f c ds document)

-- a document is listed just where it is there
pub listed_document : (f : Path) (c : Child) (ds : List Placed) → c.folder ≡ false
    → list_any (same_child c) (children f (paths_in ds)) ≡ is_some (doc_in (child_at f c) ds)
listed_document f c ds document =
    children-members f (paths_in ds) c ∙ document_members f c ds document ∙ sym (is_some-found (child_at f c) ds)

not_folder : (b : Bool) → not b ≡ true → b ≡ false
not_folder true other = absurd (true≢false (sym other))
not_folder false other = refl

folder_members : (f : Path) (c : Child) (ds : List Placed) → c.folder ≡ true → are_documents ds ≡ true
    → list_any (λ p. is_child c (child_towards f p)) (paths_in ds) ≡ has_below (child_at f c) ds
folder_members f c [] folder each = refl
folder_members f c (d ∷ ds) folder each =
    let parts = and_parts (not d.path.folder) (are_documents ds) each in
    ap (λ b. b || list_any (λ p. is_child c (child_towards f p)) (paths_in ds)) (folder_child f c d.path folder (not_folder d.path.folder parts.0))
    ∙ ap (λ b. is_below (child_at f c) d.path || b) (folder_members f c ds folder parts.1)

-- a folder is listed just where a document is below it
pub listed_folder : (f : Path) (c : Child) (ds : List Placed) → c.folder ≡ true → are_documents ds ≡ true
    → list_any (same_child c) (children f (paths_in ds)) ≡ has_below (child_at f c) ds
listed_folder f c ds folder each = children-members f (paths_in ds) c ∙ folder_members f c ds folder each
