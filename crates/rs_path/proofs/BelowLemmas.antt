-- What lies below what, and the folders above.
use Rattle.std.proofs.Common.{◌≡◌, ℕ, ◌+◌, ◌≤◌, Bool, true, false, not, ◌&&◌, ◌||◌, List, [], ◌∷◌, ◌++◌, length, take, map, Some, arith, refl, sym, ap, ◌∙◌, subst, suc, zero}
use Rattle.std.specs.List.{list_any}
use Rattle.std.specs.Str.{bytes_eq}
use Rattle.std.specs.Cmp.Lexicographic.{pointwise}
use Rattle.std.proofs.lemmas.Bool.{and_parts, and_from, and_right}
use Rattle.std.proofs.lemmas.Bool.Decides.{nat_tests}
use Rattle.std.proofs.lemmas.List.{take-map, length-map}
use Rattle.std.proofs.lemmas.Slice.Eq.{bytes_eq-Decides}
use mathlib.Core.Bool.{beq}
use Rattle.rs_path.specs.Paths.{Path, is_nil, same_path, folder_at}
use Rattle.rs_path.specs.Below.{is_inside, is_below, proper_fronts, ancestors_of, parent_at, parent_of}
use Rattle.rs_path.proofs.PathLemmas.{ancestors_more, ancestors_all, length-proper_fronts}

same_name : (m n : List ℕ) → bytes_eq m n ≡ true → m ≡ n
same_name m n = (bytes_eq-Decides m n).0

itself : (n : List ℕ) → bytes_eq n n ≡ true
itself n = (bytes_eq-Decides n n).1 refl

-- ---- below

is_inside-trans : (ks ms ns : List (List ℕ)) → is_inside ks ms ≡ true → is_inside ms ns ≡ true → is_inside ks ns ≡ true
is_inside-trans [] [] ns below above = absurd (cc)
is_inside-trans [] (m ∷ ms) [] below above = absurd (cc)
is_inside-trans [] (m ∷ ms) (n ∷ ns) below above = refl
is_inside-trans (k ∷ ks) [] ns below above = absurd (cc)
is_inside-trans (k ∷ ks) (m ∷ ms) [] below above = absurd (cc)
is_inside-trans (k ∷ ks) (m ∷ ms) (n ∷ ns) below above =
    let low = and_parts (bytes_eq k m) (is_inside ks ms) below in
    let high = and_parts (bytes_eq m n) (is_inside ms ns) above in
    let same : k ≡ n = same_name k m low.0 ∙ same_name m n high.0 in
    and_from _ _ ((bytes_eq-Decides k n).1 same) (is_inside-trans ks ms ns low.1 high.1)

is_inside-itself : (ns : List (List ℕ)) → is_inside ns ns ≡ false
is_inside-itself [] = refl
is_inside-itself (n ∷ ns) = and_right (bytes_eq n n) (is_inside ns ns) (is_inside-itself ns)

-- one of two fronts of a list is in the other
one_inside : (ks ms ns : List (List ℕ)) → is_inside ks ns ≡ true → is_inside ms ns ≡ true
    → (pointwise bytes_eq ks ms || is_inside ks ms || is_inside ms ks) ≡ true
one_inside [] [] ns first second = refl
one_inside [] (m ∷ ms) ns first second = refl
one_inside (k ∷ ks) [] ns first second = refl
one_inside (k ∷ ks) (m ∷ ms) [] first second = absurd (cc)
one_inside (k ∷ ks) (m ∷ ms) (n ∷ ns) first second =
    let one = and_parts (bytes_eq k n) (is_inside ks ns) first in
    let two = and_parts (bytes_eq m n) (is_inside ms ns) second in
    let there : bytes_eq k m ≡ true = (bytes_eq-Decides k m).1 (same_name k n one.0 ∙ sym (same_name m n two.0)) in
    let back : bytes_eq m k ≡ true = (bytes_eq-Decides m k).1 (same_name m n two.0 ∙ sym (same_name k n one.0)) in
    rw (there, back) (one_inside ks ms ns one.1 two.1)

pub is_below-trans : (f g p : Path) → is_below f g ≡ true → is_below g p ≡ true → is_below f p ≡ true
is_below-trans f g p low high =
    let below = and_parts f.folder (is_inside f.names g.names) low in
    let above = and_parts g.folder (is_inside g.names p.names) high in
    and_from _ _ below.0 (is_inside-trans f.names g.names p.names below.1 above.1)

pub is_below-itself : (p : Path) → is_below p p ≡ false
is_below-itself p = and_right p.folder (is_inside p.names p.names) (is_inside-itself p.names)

names_below_root : (ns : List (List ℕ)) → is_inside [] ns ≡ not (is_nil ns)
names_below_root [] = refl
names_below_root (n ∷ ns) = refl

-- all but `/` is below it
pub is_below-root : (p : Path) → is_below (folder_at []) p ≡ not (is_nil p.names)
is_below-root p = names_below_root p.names

pub one_below : (f g p : Path) → is_below f p ≡ true → is_below g p ≡ true → (same_path f g || is_below f g || is_below g f) ≡ true
one_below f g p first second =
    let one = and_parts f.folder (is_inside f.names p.names) first in
    let two = and_parts g.folder (is_inside g.names p.names) second in
    let lists = one_inside f.names g.names p.names one.1 two.1 in
    grind (arith, nat_tests, one.0, two.0, lists)

-- ---- ancestors

and-or : (a b c : Bool) → ((a && b) || (a && c)) ≡ (a && (b || c))
and-or true b c = refl
and-or false b c = refl

-- a test that asks one thing first
any_behind : {X Y : Type 0} (first : Bool) (test : X → Bool) (longer : X → Y) (whole : Y → Bool) (xs : List X)
    → ((x : X) → whole (longer x) ≡ (first && test x)) → list_any whole (map longer xs) ≡ (first && list_any test xs)
any_behind first test longer whole [] each = sym (and_right first false refl)
any_behind first test longer whole (x ∷ xs) each =
    rw (each x, any_behind first test longer whole xs each) (and-or first (test x) (list_any test xs))

-- the fronts of a list are what is inside it
proper_fronts-any : (ms ns : List (List ℕ)) → list_any (pointwise bytes_eq ms) (proper_fronts ns) ≡ is_inside ms ns
proper_fronts-any [] [] = refl
proper_fronts-any (m ∷ ms) [] = refl
proper_fronts-any [] (n ∷ ns) = refl
proper_fronts-any (m ∷ ms) (n ∷ ns) =
    any_behind (bytes_eq m n) (pointwise bytes_eq ms) (λ front. n ∷ front) (pointwise bytes_eq (m ∷ ms)) (proper_fronts ns) (λ front. refl)
    ∙ ap (λ b. bytes_eq m n && b) (proper_fronts-any ms ns)

flag_first : (t b : Bool) → (t && beq b true) ≡ (b && t)
flag_first true true = refl
flag_first true false = refl
flag_first false true = refl
flag_first false false = refl

-- the ancestors are the folders that the path is below
pub ancestors_of-any : (f p : Path) → list_any (same_path f) (ancestors_of p) ≡ is_below f p
ancestors_of-any f p =
    any_behind f.folder (pointwise bytes_eq f.names) folder_at (same_path f) (proper_fronts p.names) (λ front. flag_first (pointwise bytes_eq f.names front) f.folder)
    ∙ ap (λ b. f.folder && b) (proper_fronts-any f.names p.names)

take-proper_fronts : (k : ℕ) (ns : List (List ℕ)) → take k (proper_fronts ns) ≡ proper_fronts (take k ns)
take-proper_fronts zero ns = refl
take-proper_fronts (suc k) [] = refl
take-proper_fronts (suc k) (n ∷ ns) =
    ap (λ fs. [] ∷ fs) (take-map (λ front. n ∷ front) k (proper_fronts ns) ∙ ap (map (λ front. n ∷ front)) (take-proper_fronts k ns))

-- the first ancestors are those of a front
front_ancestors : (k : ℕ) (ns : List (List ℕ)) → take k (map folder_at (proper_fronts ns)) ≡ map folder_at (proper_fronts (take k ns))
front_ancestors k ns = take-map folder_at k (proper_fronts ns) ∙ ap (map folder_at) (take-proper_fronts k ns)

-- names that are inside are a front
take-inside : (ms ns : List (List ℕ)) → is_inside ms ns ≡ true → take (length ms) ns ≡ ms
take-inside [] ns inside = refl
take-inside (m ∷ ms) [] inside = absurd (cc)
take-inside (m ∷ ms) (n ∷ ns) inside =
    let parts = and_parts (bytes_eq m n) (is_inside ms ns) inside in
    ap (λ t. n ∷ t) (take-inside ms ns parts.1) ∙ ap (λ h. h ∷ ms) (sym (same_name m n parts.0))

-- the ancestors of an ancestor come first
pub ancestors_of-ancestor : (f p : Path) → is_below f p ≡ true → take (length f.names) (ancestors_of p) ≡ ancestors_of f
ancestors_of-ancestor f p below =
    let parts = and_parts f.folder (is_inside f.names p.names) below in
    front_ancestors (length f.names) p.names ∙ ap (λ ns. map folder_at (proper_fronts ns)) (take-inside f.names p.names parts.1)

pub length-ancestors_of : (p : Path) → length (ancestors_of p) ≡ length p.names
length-ancestors_of p = length-map (proper_fronts p.names) folder_at ∙ length-proper_fronts p.names

-- the parent's ancestors and the parent
ancestors_at-parent : (ns : List (List ℕ)) (f : Path) → parent_at ns ≡ Some f → map folder_at (proper_fronts ns) ≡ map folder_at (proper_fronts f.names) ++ f ∷ []
ancestors_at-parent [] f there = absurd (cc)
ancestors_at-parent (n ∷ ns) f there =
    let front = take (length ns) (n ∷ ns) in
    let same : folder_at front ≡ f = cc in
    let all : length (n ∷ ns) ≤ length ns + 1 = omega arith in
    subst (λ (g : Path). map folder_at (proper_fronts (n ∷ ns)) ≡ map folder_at (proper_fronts g.names) ++ g ∷ []) same
    (sym (ancestors_all (n ∷ ns) (length ns + 1) all) ∙ ancestors_more (n ∷ ns) (length ns) (omega arith)
    ∙ ap (λ fs. map folder_at fs ++ folder_at front ∷ []) (take-proper_fronts (length ns) (n ∷ ns)))

pub ancestors_of-parent : (p f : Path) → parent_of p ≡ Some f → ancestors_of p ≡ ancestors_of f ++ f ∷ []
ancestors_of-parent p f there = ancestors_at-parent p.names f there
