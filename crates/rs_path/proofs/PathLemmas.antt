-- Paths made of other paths.
use Rattle.std.proofs.Common.{◌≡◌, ℕ, ◌+◌, ◌-◌, ◌<◌, ◌≤◌, true, nat_le, List, [], ◌∷◌, ◌++◌, length, take, get_or, map, Some, arith, refl, ap, ◌∙◌, suc, zero, length-take}
use Rattle.std.specs.List.{list_all}
use Rattle.std.proofs.lemmas.Bool.{and_parts, and_from}
use Rattle.std.proofs.lemmas.Bool.Decides.{nat_tests}
use Rattle.std.proofs.lemmas.List.{take_more, take_all, map-append, length-map, get_or-map}
use Rattle.rs_path.specs.Names.{is_name}
use Rattle.rs_path.specs.Paths.{Path, is_path, folder_at}
use Rattle.rs_path.specs.Below.{proper_fronts, parent_at}
use Rattle.rs_path.proofs.RoundTrips.{HasPath-from}

list_all-take : (names : List (List ℕ)) (n : ℕ) → list_all is_name names ≡ true → list_all is_name (take n names) ≡ true
list_all-take names zero all = refl
list_all-take [] (suc n) all = refl
list_all-take (name ∷ names) (suc n) all =
    let parts = and_parts (is_name name) (list_all is_name names) all in and_from _ _ parts.0 (list_all-take names n parts.1)

-- the folder of some first names of a path is a path
pub is_path-front : (p : Path) (n : ℕ) → is_path p ≡ true → is_path (folder_at (take n p.names)) ≡ true
is_path-front p n is =
    let has = HasPath-from p is in
    let few : nat_le (length (take n p.names)) 32 ≡ true = grind (arith, nat_tests, length-take n p.names, has.few) in
    and_from _ _ (and_from _ _ (list_all-take p.names n has.named) few) refl

pub parent_at-some : (names : List (List ℕ)) → 0 < length names → parent_at names ≡ Some (folder_at (take (length names - 1) names))
parent_at-some [] some = absurd (omega arith)
parent_at-some (name ∷ names) some =
    let count : length names ≡ suc (length names) - 1 = omega arith in
    ap (λ k. Some (folder_at (take k (name ∷ names)))) count

-- ---- the fronts

pub length-proper_fronts : (names : List (List ℕ)) → length (proper_fronts names) ≡ length names
length-proper_fronts [] = refl
length-proper_fronts (name ∷ names) = ap suc (length-map (proper_fronts names) (λ front. name ∷ front) ∙ length-proper_fronts names)

-- the front at a place has that many names
pub get_or-proper_fronts : (names : List (List ℕ)) (k : ℕ) (d : List (List ℕ)) → k < length names → get_or (proper_fronts names) k d ≡ take k names
get_or-proper_fronts [] k d within = absurd (omega arith)
get_or-proper_fronts (name ∷ names) zero d within = refl
get_or-proper_fronts (name ∷ names) (suc k) d within =
    let rest : k < length names = omega arith in
    let inside : k < length (proper_fronts names) = omega (arith, length-proper_fronts names) in
    get_or-map (λ front. name ∷ front) (proper_fronts names) k d d inside ∙ ap (λ front. name ∷ front) (get_or-proper_fronts names k d rest)

-- one folder more
pub ancestors_more : (names : List (List ℕ)) (k : ℕ) → k < length names
    → map folder_at (take (k + 1) (proper_fronts names)) ≡ map folder_at (take k (proper_fronts names)) ++ folder_at (take k names) ∷ []
ancestors_more names k within =
    let inside : k < length (proper_fronts names) = omega (arith, length-proper_fronts names) in
    ap (map folder_at) (take_more (proper_fronts names) k [] inside)
    ∙ map-append folder_at (take k (proper_fronts names)) (get_or (proper_fronts names) k [] ∷ [])
    ∙ ap (λ front. map folder_at (take k (proper_fronts names)) ++ folder_at front ∷ []) (get_or-proper_fronts names k [] within)

-- all of them
pub ancestors_all : (names : List (List ℕ)) (k : ℕ) → length names ≤ k → map folder_at (take k (proper_fronts names)) ≡ map folder_at (proper_fronts names)
ancestors_all names k past = ap (map folder_at) (take_all k (proper_fronts names) (omega (arith, length-proper_fronts names)))
