-- Fronts of the names of a path.
use Rattle.std.proofs.Common.{◌≡◌, ℕ, ◌+◌, ◌<◌, ◌≤◌, zero, suc, Bool, true, false, not, ◌&&◌, ◌||◌, cond, List, [], ◌∷◌, ◌++◌, length, take, get_or, Option, Some, None, arith, refl, sym, ap, ◌∙◌, subst, ⊎_elim, length-append}
use Rattle.std.specs.Prelude.{nat_le}
use Rattle.std.specs.List.{list_all}
use Rattle.std.proofs.lemmas.Bool.{cases_Bool, cond-true, cond-false, true≢false}
use Rattle.std.specs.Option.{option_or}
use Rattle.std.proofs.lemmas.List.{get_or-map, length-map}
use Rattle.rs_path.specs.Limits.{max_names}
use Rattle.rs_path.specs.Names.{is_name}
use Rattle.rs_path.specs.Paths.{Path, folder_at, is_nil, is_path}
use Rattle.rs_path.specs.Below.{proper_fronts, ancestors_of}
use Rattle.rs_rules.specs.declared.placed.Placed.{Placed}
use Rattle.rs_rules.specs.Documents.{has_below}
use Rattle.rs_rules.specs.Clashes.{first_front, has_document, first_document, is_full, clash_in, full_in}

pub fronts_count : (names : List (List ℕ)) → length (proper_fronts names) ≡ length names
fronts_count [] = refl
fronts_count (n ∷ ns) = ap suc (length-map (proper_fronts ns) (λ front. n ∷ front) ∙ fronts_count ns)

front_at : (names : List (List ℕ)) (k : ℕ) → k < length names → get_or (proper_fronts names) k [] ≡ take k names
front_at [] k within = absurd (omega arith)
front_at (n ∷ ns) zero within = refl
front_at (n ∷ ns) (suc k) within =
    let fits : k < length ns = omega arith in
    let inside : k < length (proper_fronts ns) = omega (arith, fronts_count ns) in
    get_or-map (λ front. n ∷ front) (proper_fronts ns) k [] [] inside ∙ ap (λ front. n ∷ front) (front_at ns k fits)

pub ancestors_count : (path : Path) → length (ancestors_of path) ≡ length path.names
ancestors_count path = length-map (proper_fronts path.names) folder_at ∙ fronts_count path.names

-- the folder with the first k names is the ancestor at k
pub ancestor_at : (path : Path) (k : ℕ) (d : Path) → k < length path.names → get_or (ancestors_of path) k d ≡ folder_at (take k path.names)
ancestor_at path k d within =
    let inside : k < length (proper_fronts path.names) = omega (arith, fronts_count path.names) in
    get_or-map folder_at (proper_fronts path.names) k [] d inside ∙ ap folder_at (front_at path.names k within)

-- a number of names that is at least one number and less than another
pub record IsBetween (low k high : ℕ) : Type 0 where
  pub above : low ≤ k
  pub below : k < high

some_same : (a b : ℕ) → Some a ≡ Some b → a ≡ b
some_same a b is = cc

front_bound : (test : List (List ℕ) → Bool) (done ns : List (List ℕ)) (k : ℕ) → first_front test done ns ≡ Some k
    → IsBetween (length done) k (length done + length ns)
front_bound test done [] k is = absurd (cc)
front_bound test done (n ∷ ns) k is =
    ⊎_elim
    (λ hit. let same : length done ≡ k = some_same _ _ (sym (cond-true (test done) (Some (length done)) (first_front test (done ++ n ∷ []) ns) hit) ∙ is) in
    record { above = omega arith; below = omega arith })
    (λ clear.
    let later = front_bound test (done ++ n ∷ []) ns k (sym (cond-false (test done) (Some (length done)) (first_front test (done ++ n ∷ []) ns) clear) ∙ is) in
    let more = length-append done (n ∷ []) in
    record { above = omega (arith, later.above, more); below = omega (arith, later.below, more) })
    (cases_Bool (test done))

pub full_bound : (docs : List Placed) (path : Path) (k : ℕ) → full_in docs path ≡ Some k → k < length path.names
full_bound docs path k is = let found = front_bound (is_full docs path) [] path.names k is in omega (arith, found.below)

first_bound : (docs : List Placed) (names : List (List ℕ)) (k : ℕ) → first_document docs names ≡ Some k → IsBetween 1 k (length names)
first_bound docs [] k is = absurd (cc)
first_bound docs (n ∷ ns) k is =
    let found = front_bound (has_document docs) (n ∷ []) ns k is in record { above = found.above; below = omega (arith, found.below) }

clash_by : (docs : List Placed) (path : Path) (first : Option ℕ) (k : ℕ) → first_document docs path.names ≡ first → 0 < length path.names
    → option_or first (cond (has_below (folder_at path.names) docs) (Some (length path.names)) None) ≡ Some k
    → (0 < k) × (k ≤ length path.names)
clash_by docs path (Some one) k found some is =
    let same : one ≡ k = some_same one k is in
    let within = first_bound docs path.names one found in
    (omega (arith, same, within.above), omega (arith, same, within.below))
clash_by docs path None k none some is =
    ⊎_elim
    (λ hit. let same : length path.names ≡ k = some_same _ _ (sym (cond-true (has_below (folder_at path.names) docs) _ None hit) ∙ is) in
    (omega arith, omega arith))
    (λ clear. let nothing : None ≡ Some k = sym (cond-false (has_below (folder_at path.names) docs) (Some (length path.names)) None clear) ∙ is in absurd (cc))
    (cases_Bool (has_below (folder_at path.names) docs))

-- a clash has some names, and no more than the path
pub clash_bound : (docs : List Placed) (path : Path) (k : ℕ) → 0 < length path.names → clash_in docs path ≡ Some k
    → (0 < k) × (k ≤ length path.names)
clash_bound docs path k some is = clash_by docs path (first_document docs path.names) k refl some is

some_names : (names : List (List ℕ)) (a b : Bool) → (a && b && (false || not (is_nil names))) ≡ true → 0 < length names
some_names [] a b is = absurd (true≢false (sym is ∙ and_last a b))
  where
    and_last : (a b : Bool) → (a && b && false) ≡ false
    and_last true true = refl
    and_last true false = refl
    and_last false true = refl
    and_last false false = refl
some_names (n ∷ ns) a b is = omega arith

-- a document has a name
pub document_named : (path : Path) → path.folder ≡ false → is_path path ≡ true → 0 < length path.names
document_named path document is =
    some_names path.names (list_all is_name path.names) (nat_le (length path.names) max_names)
    (subst (λ folder. (list_all is_name path.names && nat_le (length path.names) max_names && (folder || not (is_nil path.names))) ≡ true) document is)
