-- Paths below a folder: they come right behind it, one after another, and their texts begin with the folder's. The
-- folders above a path.
use Rattle.std.proofs.Common.{◌≡◌, ℕ, ◌≤◌, Bool, true, false, ◌&&◌, ◌||◌, nat_eq, nat_lt, ◌==◌, List, [], ◌∷◌, ◌++◌, map, arith, refl, sym, ap, ◌∙◌, ⊎_elim, append_assoc}
use Rattle.std.specs.List.{starts_with, list_any, flat_map, AllByRecursion}
use Rattle.std.specs.Str.{bytes_eq}
use Rattle.std.specs.declared.cmp.Ordering.{Ordering}
use Rattle.std.specs.declared.cmp.Ordering.TheVariants.{Less, Equal, Greater}
use Rattle.std.specs.Ordering.{nat_cmp, bool_cmp, ordering_then, is_gt}
use Rattle.std.specs.Cmp.{tied_itself, nat_cmp_total}
use Rattle.std.specs.Cmp.Lexicographic.{slice_cmp, pointwise}
use Rattle.std.proofs.lemmas.Bool.{cases_Bool, cond-true, cond-false, and_parts, and_from, and_right, true≢false, false≢true}
use Rattle.std.proofs.lemmas.Bool.Decides.{nat_tests}
use Rattle.std.proofs.lemmas.Cmp.{nat_list_cmp_total}
use Rattle.std.proofs.lemmas.Slice.Eq.{bytes_eq-Decides}
use mathlib.Core.Bool.{beq}
use Rattle.rs_path.specs.Paths.{Path, folder_at, same_path, text_of, plain_text, path_cmp}
use Rattle.rs_path.specs.Below.{is_inside, is_below, proper_fronts, ancestors_of}

-- ---- texts

-- the text begins with the other, byte by byte
abbrev begins : List ℕ → List ℕ → Bool
begins xs [] = true
begins [] (y ∷ ys) = false
begins (x ∷ xs) (y ∷ ys) = nat_eq y x && begins xs ys

starts_with-begins : (xs ys : List ℕ) → starts_with nat_eq xs ys ≡ begins xs ys
starts_with-begins xs [] = refl
starts_with-begins [] (y ∷ ys) = refl
starts_with-begins (x ∷ xs) (y ∷ ys) = ap (λ b. nat_eq y x && b) (starts_with-begins xs ys)

own_byte : (x : ℕ) → nat_eq x x ≡ true
own_byte x = grind (arith, nat_tests)

begins-front : (m xs ys : List ℕ) → begins (m ++ xs) (m ++ ys) ≡ begins xs ys
begins-front [] xs ys = refl
begins-front (b ∷ m) xs ys = ap (λ t. t && begins (m ++ xs) (m ++ ys)) (own_byte b) ∙ begins-front m xs ys

pub cmp-front : (m xs ys : List ℕ) → slice_cmp nat_cmp (m ++ xs) (m ++ ys) ≡ slice_cmp nat_cmp xs ys
cmp-front [] xs ys = refl
cmp-front (b ∷ m) xs ys = ap (λ r. ordering_then r (slice_cmp nat_cmp (m ++ xs) (m ++ ys))) (tied_itself nat_cmp_total b) ∙ cmp-front m xs ys

-- the first of two texts in order isn't greater
pub first_within : (x y : ℕ) (r : Ordering) → is_gt (ordering_then (nat_cmp x y) r) ≡ false → x ≤ y
first_within x y r not_more =
    ⊎_elim
    (λ less. grind (arith, nat_tests, less))
    (λ not_less.
    ⊎_elim
    (λ same. grind (arith, nat_tests, same))
    (λ apart.
    let greater : nat_cmp x y ≡ Greater = cond-false _ _ _ not_less ∙ cond-false _ _ _ apart in
    absurd (true≢false (sym (ap (λ o. is_gt (ordering_then o r)) greater) ∙ not_more)))
    (cases_Bool (x == y)))
    (cases_Bool (nat_lt x y))

pub past_equal : (x y : ℕ) (r : Ordering) → y ≡ x → is_gt (ordering_then (nat_cmp x y) r) ≡ false → is_gt r ≡ false
past_equal x y r same not_more =
    sym (ap (λ o. is_gt (ordering_then o r)) (ap (nat_cmp x) same ∙ tied_itself nat_cmp_total x)) ∙ not_more

-- what is between a text and one that begins with it begins with it
between : (f q r : List ℕ) → is_gt (slice_cmp nat_cmp f q) ≡ false → is_gt (slice_cmp nat_cmp q r) ≡ false → begins r f ≡ true → begins q f ≡ true
between [] q r low high begun = refl
between (x ∷ f) [] r low high begun = absurd (true≢false low)
between (x ∷ f) (y ∷ q) [] low high begun = absurd (false≢true begun)
between (x ∷ f) (y ∷ q) (z ∷ r) low high begun =
    let parts = and_parts (nat_eq x z) (begins r f) begun in
    let first = parts.0 in
    let same : x ≡ z = grind (arith, nat_tests, first) in
    let one = first_within x y (slice_cmp nat_cmp f q) low in
    let two = first_within y z (slice_cmp nat_cmp q r) high in
    let equal : y ≡ x = omega (arith, one, two, same) in
    let later : z ≡ y = omega (arith, equal, same) in
    and_from _ _ (ap (nat_eq x) equal ∙ own_byte x)
    (between f q r (past_equal x y (slice_cmp nat_cmp f q) equal low) (past_equal y z (slice_cmp nat_cmp q r) later high) parts.1)

pub then_within : (a b : Ordering) → ordering_then a b ≡ Less → is_gt a ≡ false
then_within Less b less = refl
then_within Equal b less = refl
then_within Greater b less = absurd (true≢false (ap is_gt less))

-- a path between a folder and one whose text begins with the folder's begins with it
pub starts-between : (f q r : Path) → path_cmp f q ≡ Less → path_cmp q r ≡ Less → starts_with nat_eq (plain_text r) (plain_text f) ≡ true
    → starts_with nat_eq (plain_text q) (plain_text f) ≡ true
starts-between f q r low high begun =
    starts_with-begins (plain_text q) (plain_text f)
    ∙ between (plain_text f) (plain_text q) (plain_text r) (then_within (slice_cmp nat_cmp (plain_text f) (plain_text q)) _ low)
    (then_within (slice_cmp nat_cmp (plain_text q) (plain_text r)) _ high)
    (sym (starts_with-begins (plain_text r) (plain_text f)) ∙ begun)

-- ---- names

pub text_of-cons : (m : List ℕ) (ms : List (List ℕ)) (b : Bool) → text_of (m ∷ ms) b ≡ 47 ∷ (m ++ text_of ms b)
text_of-cons m ms b = ap (λ t. 47 ∷ t) (append_assoc m (flat_map (λ text. 47 ∷ text) ms) (text_of [] b))

abbrev PathAt : List (List ℕ) → Bool → Path
PathAt ns b = record { names = ns; folder = b }

path_cmp-cons : (m : List ℕ) (ms ns : List (List ℕ)) (a b : Bool) → path_cmp (PathAt (m ∷ ms) a) (PathAt (m ∷ ns) b) ≡ path_cmp (PathAt ms a) (PathAt ns b)
path_cmp-cons m ms ns a b =
    let texts : slice_cmp nat_cmp (text_of (m ∷ ms) a) (text_of (m ∷ ns) b) ≡ slice_cmp nat_cmp (text_of ms a) (text_of ns b) =
    ap (λ t. slice_cmp nat_cmp t (text_of (m ∷ ns) b)) (text_of-cons m ms a) ∙ ap (slice_cmp nat_cmp (47 ∷ (m ++ text_of ms a))) (text_of-cons m ns b)
    ∙ cmp-front (47 ∷ m) (text_of ms a) (text_of ns b) in
    let names = tied_itself nat_list_cmp_total m in
    (λ i. ordering_then (texts i) (ordering_then (ordering_then (names i) (slice_cmp (slice_cmp nat_cmp) ms ns)) (bool_cmp a b)))

-- a lone slash, and a text that begins with one
slash_first : (rest : List ℕ) (more : Ordering) → ordering_then (slice_cmp nat_cmp [] rest) (ordering_then Less more) ≡ Less
slash_first [] more = refl
slash_first (b ∷ rest) more = refl

inside_behind : (ms ns : List (List ℕ)) (b : Bool) → is_inside ms ns ≡ true → path_cmp (PathAt ms true) (PathAt ns b) ≡ Less
inside_behind [] [] b inside = absurd (false≢true inside)
inside_behind [] (n ∷ ns) b inside = slash_first ((n ++ flat_map (λ text. 47 ∷ text) ns) ++ text_of [] b) (bool_cmp true b)
inside_behind (m ∷ ms) [] b inside = absurd (false≢true inside)
inside_behind (m ∷ ms) (n ∷ ns) b inside =
    let parts = and_parts (bytes_eq m n) (is_inside ms ns) inside in
    let same : m ≡ n = (bytes_eq-Decides m n).0 parts.0 in
    ap (λ k. path_cmp (PathAt (m ∷ ms) true) (PathAt (k ∷ ns) b)) (sym same) ∙ path_cmp-cons m ms ns true b ∙ inside_behind ms ns b parts.1

inside_begins : (ms ns : List (List ℕ)) (b : Bool) → is_inside ms ns ≡ true → begins (text_of ns b) (text_of ms true) ≡ true
inside_begins [] [] b inside = absurd (false≢true inside)
inside_begins [] (n ∷ ns) b inside = refl
inside_begins (m ∷ ms) [] b inside = absurd (false≢true inside)
inside_begins (m ∷ ms) (n ∷ ns) b inside =
    let parts = and_parts (bytes_eq m n) (is_inside ms ns) inside in
    let same : m ≡ n = (bytes_eq-Decides m n).0 parts.0 in
    ap (λ k. begins (text_of (k ∷ ns) b) (text_of (m ∷ ms) true)) (sym same)
    ∙ ap (λ t. begins t (text_of (m ∷ ms) true)) (text_of-cons m ns b)
    ∙ ap (begins (47 ∷ (m ++ text_of ns b))) (text_of-cons m ms true)
    ∙ begins-front (47 ∷ m) (text_of ns b) (text_of ms true)
    ∙ inside_begins ms ns b parts.1

-- what is below a folder comes behind it
pub below-behind : (f q : Path) → is_below f q ≡ true → path_cmp f q ≡ Less
below-behind f q below =
    let parts = and_parts f.folder (is_inside f.names q.names) below in
    ap (λ t. path_cmp (PathAt f.names t) q) parts.0 ∙ inside_behind f.names q.names q.folder parts.1

-- and its text begins with the folder's
pub below-starts : (f q : Path) → is_below f q ≡ true → starts_with nat_eq (plain_text q) (plain_text f) ≡ true
below-starts f q below =
    let parts = and_parts f.folder (is_inside f.names q.names) below in
    starts_with-begins (plain_text q) (plain_text f)
    ∙ ap (λ t. begins (plain_text q) (text_of f.names t)) parts.0 ∙ inside_begins f.names q.names q.folder parts.1

-- ---- the folders above a path

and-or : (a b c : Bool) → ((a && b) || (a && c)) ≡ (a && (b || c))
and-or true b c = refl
and-or false b c = refl

-- a test that asks one thing first
any_behind : {X Y : Type 0} (first : Bool) (test : X → Bool) (longer : X → Y) (whole : Y → Bool) (xs : List X)
    → ((x : X) → whole (longer x) ≡ (first && test x)) → list_any whole (map longer xs) ≡ (first && list_any test xs)
any_behind first test longer whole [] each = sym (and_right first false refl)
any_behind first test longer whole (x ∷ xs) each =
    rw (each x, any_behind first test longer whole xs each) (and-or first (test x) (list_any test xs))

-- the fronts of a list are what is inside it
proper_fronts-any : (ms ns : List (List ℕ)) → list_any (pointwise bytes_eq ms) (proper_fronts ns) ≡ is_inside ms ns
proper_fronts-any [] [] = refl
proper_fronts-any (m ∷ ms) [] = refl
proper_fronts-any [] (n ∷ ns) = refl
proper_fronts-any (m ∷ ms) (n ∷ ns) =
    any_behind (bytes_eq m n) (pointwise bytes_eq ms) (λ front. n ∷ front) (pointwise bytes_eq (m ∷ ms)) (proper_fronts ns) (λ front. refl)
    ∙ ap (λ b. bytes_eq m n && b) (proper_fronts-any ms ns)

flag_first : (t b : Bool) → (t && beq b true) ≡ (b && t)
flag_first true true = refl
flag_first true false = refl
flag_first false true = refl
flag_first false false = refl

-- the ancestors are the folders that the path is below
pub ancestors_of-any : (f p : Path) → list_any (same_path f) (ancestors_of p) ≡ is_below f p
ancestors_of-any f p =
    any_behind f.folder (pointwise bytes_eq f.names) folder_at (same_path f) (proper_fronts p.names) (λ front. flag_first (pointwise bytes_eq f.names front) f.folder)
    ∙ ap (λ b. f.folder && b) (proper_fronts-any f.names p.names)
