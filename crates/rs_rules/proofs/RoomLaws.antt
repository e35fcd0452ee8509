-- How many children a folder has at most, and that few documents fill none.
use Rattle.std.proofs.Common.{◌≡◌, ℕ, ◌+◌, ◌<◌, ◌≤◌, false, List, [], ◌∷◌, ◌++◌, length, fold, filter_map, Option, Some, None, nat_lt, arith, length-append}
use Rattle.std.specs.List.{cons_option}
use Rattle.std.specs.declared.cmp.Ordering.{Ordering}
use Rattle.std.specs.declared.cmp.Ordering.TheVariants.{Less, Equal, Greater}
use Rattle.std.specs.Ordering.{match_ordering}
use Rattle.std.specs.BTreeSet.{insert_key}
use Rattle.std.proofs.lemmas.Bool.Decides.{nat_tests}
use Rattle.std.proofs.lemmas.List.{length-map}
use Rattle.rs_path.specs.declared.child.Child.{Child}
use Rattle.rs_path.specs.Paths.{Path, folder_at}
use Rattle.rs_path.specs.Children.{child_cmp, child_towards}
use Rattle.rs_rules.specs.declared.placed.Placed.{Placed}
use Rattle.rs_rules.specs.Limits.{max_items}
use Rattle.rs_rules.specs.Clashes.{is_full}
use Rattle.rs_rules.specs.Contents.{paths_in}
use Rattle.rs_rules.specs.Listings.{children}

-- no more keys than were put in
insert_few : (k : Child) (xs : List Child) → length (insert_key child_cmp xs k) ≤ length xs + 1
insert_few k [] = omega arith
insert_few k (x ∷ xs) = by (child_cmp k x) (insert_few k xs)
  where
    by : (r : Ordering) → length (insert_key child_cmp xs k) ≤ length xs + 1
        → length (match_ordering r (k ∷ x ∷ xs) (x ∷ xs) (x ∷ insert_key child_cmp xs k)) ≤ length (x ∷ xs) + 1
    by Less rest = omega arith
    by Equal rest = omega arith
    by Greater rest = omega (arith, rest)

fold_few : (xs ks : List Child) → length (fold (insert_key child_cmp) ks xs) ≤ length ks + length xs
fold_few [] ks = omega arith
fold_few (x ∷ xs) ks =
    let rest = fold_few xs (insert_key child_cmp ks x) in
    let one = insert_few x ks in omega (arith, rest, one)

found_few : (f : Path) (ps : List Path) → length (filter_map (child_towards f) ps) ≤ length ps
found_few f [] = omega arith
found_few f (p ∷ ps) = by (child_towards f p) (found_few f ps)
  where
    by : (o : Option Child) → length (filter_map (child_towards f) ps) ≤ length ps
        → length (cons_option o (filter_map (child_towards f) ps)) ≤ length (p ∷ ps)
    by None rest = omega (arith, rest)
    by (Some c) rest = omega (arith, rest)

-- at most as many children as paths
pub children-few : (f : Path) (ps : List Path) → length (children f ps) ≤ length ps
children-few f ps =
    let rest = found_few f ps in
    let all = fold_few (filter_map (child_towards f) ps) [] in omega (arith, rest, all)

few_with : (f : Path) (ds : List Placed) (p : Path) → length (children f (paths_in ds ++ p ∷ [])) ≤ length ds + 1
few_with f ds p =
    let all = children-few f (paths_in ds ++ p ∷ []) in
    let joined = length-append (paths_in ds) (p ∷ []) in
    let same = length-map ds (λ (d : Placed). d.path) in omega (arith, all, joined, same)

too_few : (n m : ℕ) → n < max_items → m ≤ n + 1 → nat_lt max_items m ≡ false
too_few n m few most = grind (arith, nat_tests, few, most)

-- fewer documents than items fill no folder
pub full-few : (ds : List Placed) (p : Path) (names : List (List ℕ)) → length ds < max_items → is_full ds p names ≡ false
full-few ds p names few = too_few (length ds) (length (children (folder_at names) (paths_in ds ++ p ∷ []))) few (few_with (folder_at names) ds p)
