-- The parent of a path and its last name, and the folders above a path, one by one.
use Rattle.std.proofs.Common.{◌≡◌, ℕ, ◌+◌, ◌-◌, ◌<◌, ◌≤◌, Bool, true, false, cond, List, [], ◌∷◌, ◌++◌, length, take, drop, get_or, map, Option, Some, None, arith, refl, sym, ap, ◌∙◌, zero, suc, length-take, take_all}
use Rattle.std.specs.Prelude.{find}
use Rattle.std.proofs.lemmas.Bool.{cond-true, cond-false}
use Rattle.std.proofs.lemmas.List.{at_drop_more, take_more, length-map}
use Rattle.rs_path.specs.Paths.{Path, folder_at, document_at}
use Rattle.rs_path.specs.Children.{child_at}
use Rattle.rs_path.specs.Below.{proper_fronts, ancestors_of, parent_at, parent_of}

-- ---- the parent

-- the parent of a path with names has all its names but the last
pub record IsParent (path parent : Path) : Type 0 where
  pub folder : parent.folder ≡ true
  pub shorter : length parent.names + 1 ≡ length path.names
  pub names : (d : List ℕ) → parent.names ++ get_or path.names (length path.names - 1) d ∷ [] ≡ path.names

parent_names : (n : List ℕ) (ns : List (List ℕ)) (d : List ℕ) → take (length ns) (n ∷ ns) ++ get_or (n ∷ ns) (length ns) d ∷ [] ≡ n ∷ ns
parent_names n ns d =
    let within : length ns < length (n ∷ ns) = omega arith in
    let whole : length (n ∷ ns) ≤ length ns + 1 = omega arith in
    sym (take_more (n ∷ ns) (length ns) d within) ∙ take_all (length ns + 1) (n ∷ ns) whole

parent_is : (ns : List (List ℕ)) (folder : Path) → parent_at ns ≡ Some folder
    → (folder.folder ≡ true) × (length folder.names + 1 ≡ length ns) × ((d : List ℕ) → folder.names ++ get_or ns (length ns - 1) d ∷ [] ≡ ns)
parent_is [] folder found = absurd (cc)
parent_is (n ∷ ns) folder found =
    let same : folder_at (take (length ns) (n ∷ ns)) ≡ folder = cc in
    let count : length (n ∷ ns) - 1 ≡ length ns = omega arith in
    let short : length (take (length ns) (n ∷ ns)) + 1 ≡ length (n ∷ ns) = omega (arith, length-take (length ns) (n ∷ ns)) in (
      ap (λ (p : Path). p.folder) (sym same),
      ap (λ (p : Path). length p.names + 1) (sym same) ∙ short,
      λ d. ap (λ (p : Path). p.names ++ get_or (n ∷ ns) (length (n ∷ ns) - 1) d ∷ []) (sym same)
          ∙ ap (λ k. take (length ns) (n ∷ ns) ++ get_or (n ∷ ns) k d ∷ []) count ∙ parent_names n ns d,
    )

pub parent-is : (path parent : Path) → parent_of path ≡ Some parent → IsParent path parent
parent-is path parent found =
    let facts = parent_is path.names parent found in
    record { folder = facts.0; shorter = facts.1; names = facts.2 }

-- a child of the parent with the path's last name has the path's names
pub twin-is : (path parent : Path) (last : List ℕ) (folder : Bool) → parent_of path ≡ Some parent → last ≡ get_or path.names (length path.names - 1) last
    → child_at parent (record { name = last; folder = folder }) ≡ record { names = path.names; folder = folder }
twin-is path parent last folder found is =
    ap (λ (ns : List (List ℕ)). record { names = ns; folder = folder })
    (ap (λ (l : List ℕ). parent.names ++ l ∷ []) is ∙ (parent-is path parent found).names last)

parent_there : (ns : List (List ℕ)) → 0 < length ns → parent_at ns ≡ None → ⊥
parent_there [] some none = absurd (omega (arith, some))
parent_there (n ∷ ns) some none = absurd (cc)

pub parent-there : (path : Path) → 0 < length path.names → parent_of path ≡ None → ⊥
parent-there path some none = parent_there path.names some none

-- ---- the folders above

mapped : {X Y : Type 0} (f : X → Y) (xs : List X) (i : ℕ) (d : X) (e : Y) → i < length xs → get_or (map f xs) i e ≡ f (get_or xs i d)
mapped f [] i d e within = absurd (omega (arith, within))
mapped f (x ∷ xs) zero d e within = refl
mapped f (x ∷ xs) (suc i) d e within = mapped f xs i d e (omega (arith, within))

length-fronts : (ns : List (List ℕ)) → length (proper_fronts ns) ≡ length ns
length-fronts [] = refl
length-fronts (n ∷ ns) =
    let rest = length-map (proper_fronts ns) (λ front. n ∷ front) in
    let fewer = length-fronts ns in
    omega (arith, rest, fewer)

front_length : (ns : List (List ℕ)) (i : ℕ) → i < length ns → length (get_or (proper_fronts ns) i []) ≡ i
front_length [] i within = absurd (omega (arith, within))
front_length (n ∷ ns) zero within = refl
front_length (n ∷ ns) (suc i) within =
    let fewer = length-fronts ns in
    let inside : i < length (proper_fronts ns) = omega (arith, within, fewer) in
    let rest = front_length ns i (omega (arith, within)) in
    let here = ap length (mapped (λ (front : List (List ℕ)). n ∷ front) (proper_fronts ns) i [] [] inside) in
    omega (arith, rest, here)

length-above : (ns : List (List ℕ)) → length (map folder_at (proper_fronts ns)) ≡ length ns
length-above ns = length-map (proper_fronts ns) folder_at ∙ length-fronts ns

-- the folders above a path have one name more each
pub above-length : (path : Path) (i : ℕ) (d : Path) → i < length (ancestors_of path) → length (get_or (ancestors_of path) i d).names ≡ i
above-length path i d within =
    let count = length-above path.names in
    let inside : i < length path.names = omega (arith, within, count) in
    let fronts = length-fronts path.names in
    ap (λ (p : Path). length p.names) (mapped folder_at (proper_fronts path.names) i [] d (omega (arith, inside, fronts))) ∙ front_length path.names i inside

-- ---- the documents above, one by one

abbrev pub FirstFrom : (Path → Bool) → ℕ → List Path → Option Path
FirstFrom test k folders = find test (map (λ (f : Path). document_at f.names) (drop k folders))

above_step : (test : Path → Bool) (folders : List Path) (k : ℕ) (d : Path) → k < length folders
    → FirstFrom test k folders
    ≡ cond (test (document_at (get_or folders k d).names)) (Some (document_at (get_or folders k d).names)) (FirstFrom test (k + 1) folders)
above_step test folders k d within =
    at_drop_more (λ l. find test (map (λ (f : Path). document_at f.names) l)) folders k d within

pub above-hit : (test : Path → Bool) (folders : List Path) (k : ℕ) (d : Path) → k < length folders → test (document_at (get_or folders k d).names) ≡ true
    → FirstFrom test k folders ≡ Some (document_at (get_or folders k d).names)
above-hit test folders k d within hit = above_step test folders k d within ∙ cond-true _ _ _ hit

pub above-on : (test : Path → Bool) (folders : List Path) (k : ℕ) (d : Path) → k < length folders → test (document_at (get_or folders k d).names) ≡ false
    → FirstFrom test k folders ≡ FirstFrom test (k + 1) folders
above-on test folders k d within clear = above_step test folders k d within ∙ cond-false _ _ _ clear

drop_past : (folders : List Path) (k : ℕ) → length folders ≤ k → drop k folders ≡ []
drop_past [] zero past = refl
drop_past [] (suc k) past = refl
drop_past (f ∷ folders) zero past = absurd (omega (arith, past))
drop_past (f ∷ folders) (suc k) past = drop_past folders k (omega (arith, past))

pub above-end : (test : Path → Bool) (folders : List Path) (k : ℕ) → length folders ≤ k → FirstFrom test k folders ≡ None
above-end test folders k past = ap (λ l. find test (map (λ (f : Path). document_at f.names) l)) (drop_past folders k past)
