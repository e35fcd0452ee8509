-- When one plain text begins with another.
use Rattle.std.proofs.Common.{◌≡◌, ℕ, Bool, true, false, ◌&&◌, ◌||◌, ◌==◌, nat_eq, List, [], ◌∷◌, ◌++◌, All, arith, refl, sym, ap, ◌∙◌}
use Rattle.std.specs.List.{list_all, starts_with}
use Rattle.std.specs.Str.{bytes_eq}
use Rattle.std.specs.Cmp.Lexicographic.{pointwise}
use Rattle.std.proofs.lemmas.Bool.{and_parts}
use Rattle.std.proofs.lemmas.Bool.Decides.{nat_tests}
use Rattle.std.proofs.lemmas.List.Elements.{All-head, All-tail}
use mathlib.Core.Bool.{beq}
use Rattle.rs_path.specs.Names.{is_name}
use Rattle.rs_path.specs.Paths.{Path, is_path, same_path, text_of, plain_text}
use Rattle.rs_path.specs.Below.{is_inside, is_below}
use Rattle.rs_path.proofs.NameLemmas.{name_without_slash}
use Rattle.rs_path.proofs.RoundTrips.{text_of-cons, NoSlash, HasPath-from}

-- the text begins with the other, byte by byte
begins : List ℕ → List ℕ → Bool
begins xs [] = true
begins [] (y ∷ ys) = false
begins (x ∷ xs) (y ∷ ys) = nat_eq y x && begins xs ys

starts_with-begins : (xs ys : List ℕ) → starts_with nat_eq xs ys ≡ begins xs ys
unfolding begins
starts_with-begins xs [] = refl
starts_with-begins [] (y ∷ ys) = refl
starts_with-begins (x ∷ xs) (y ∷ ys) = ap (λ b. nat_eq y x && b) (starts_with-begins xs ys)

-- what follows a name begins with a slash, or is nothing
abbrev Ends : List ℕ → Type 0
Ends [] = Unit {0}
Ends (byte ∷ rest) = byte ≡ 47

and-assoc : (a b c : Bool) → (a && (b && c)) ≡ (a && b && c)
and-assoc true b c = refl
and-assoc false b c = refl

apart : (y x : ℕ) → (y == 47) ≡ false → x ≡ 47 → nat_eq y x ≡ false
apart y x other slash = rw slash other

slash_apart : (x : ℕ) → (x == 47) ≡ false → nat_eq 47 x ≡ false
slash_apart x other = grind (arith, nat_tests)

-- a name and a slash stand first where the first name is that name
begins-name : (n m rest others : List ℕ) → All NoSlash n → All NoSlash m → Ends rest
    → begins (n ++ rest) (m ++ 47 ∷ others) ≡ (bytes_eq m n && begins rest (47 ∷ others))
unfolding begins
begins-name [] [] rest others no_n no_m ends = refl
begins-name (x ∷ n) [] rest others no_n no_m ends = ap (λ b. b && begins (n ++ rest) others) (slash_apart x (All-head NoSlash x n no_n))
begins-name [] (y ∷ m) [] others no_n no_m ends = refl
begins-name [] (y ∷ m) (b ∷ rest) others no_n no_m ends = ap (λ t. t && begins rest (m ++ 47 ∷ others)) (apart y b (All-head NoSlash y m no_m) ends)
begins-name (x ∷ n) (y ∷ m) rest others no_n no_m ends =
    ap (λ b. nat_eq y x && b) (begins-name n m rest others (All-tail NoSlash x n no_n) (All-tail NoSlash y m no_m) ends)
    ∙ and-assoc (nat_eq y x) (bytes_eq m n) (begins rest (47 ∷ others))

ends-text_of : (ns : List (List ℕ)) (folder : Bool) → Ends (text_of ns folder)
ends-text_of [] true = refl
ends-text_of [] false = tt
ends-text_of (n ∷ ns) folder = refl

-- a folder's text begins with a slash
text_of-slash : (ms : List (List ℕ)) → (others : List ℕ) × (text_of ms true ≡ 47 ∷ others)
text_of-slash [] = ([], refl)
text_of-slash (m ∷ ms) = (m ++ text_of ms true, text_of-cons m ms true)

-- `/` alone doesn't begin with a slash and a name
lone_slash : (m others : List ℕ) → is_name m ≡ true → begins [] (m ++ others) ≡ false
unfolding begins
lone_slash [] others named = absurd (cc)
lone_slash (y ∷ m) others named = refl

first_of_both : (a b c d : Bool) → (a && ((b && c) || d)) ≡ ((a && b && c) || (a && d))
first_of_both true b c d = refl
first_of_both false b c d = refl

-- a text begins with a folder's where the names are the folder's, or the folder's are inside
begins-text_of : (ms ns : List (List ℕ)) (folder : Bool) → list_all is_name ms ≡ true → list_all is_name ns ≡ true
    → begins (text_of ns folder) (text_of ms true) ≡ ((pointwise bytes_eq ms ns && folder) || is_inside ms ns)
unfolding begins
begins-text_of [] [] true all_m all_n = refl
begins-text_of [] [] false all_m all_n = refl
begins-text_of [] (n ∷ ns) folder all_m all_n = refl
begins-text_of (m ∷ ms) [] true all_m all_n =
    ap (begins (47 ∷ [])) (text_of-cons m ms true) ∙ lone_slash m (text_of ms true) (and_parts (is_name m) (list_all is_name ms) all_m).0
begins-text_of (m ∷ ms) [] false all_m all_n = ap (begins []) (text_of-cons m ms true)
begins-text_of (m ∷ ms) (n ∷ ns) folder all_m all_n =
    let one = and_parts (is_name m) (list_all is_name ms) all_m in
    let two = and_parts (is_name n) (list_all is_name ns) all_n in
    let slash = text_of-slash ms in
    let rest = text_of ns folder in
    ap (λ t. begins t (text_of (m ∷ ms) true)) (text_of-cons n ns folder)
    ∙ ap (begins (47 ∷ (n ++ rest))) (text_of-cons m ms true ∙ ap (λ t. 47 ∷ (m ++ t)) slash.1)
    ∙ begins-name n m rest slash.0 (name_without_slash n two.0) (name_without_slash m one.0) (ends-text_of ns folder)
    ∙ ap (λ t. bytes_eq m n && begins rest t) (sym slash.1)
    ∙ ap (λ b. bytes_eq m n && b) (begins-text_of ms ns folder one.1 two.1)
    ∙ first_of_both (bytes_eq m n) (pointwise bytes_eq ms ns) folder (is_inside ms ns)

true_flag : (b : Bool) → b ≡ beq true b
true_flag true = refl
true_flag false = refl

-- the texts of what a folder is or has below it begin with the folder's text
pub starts_with-plain_text : (p f : Path) → is_path p ≡ true → is_path f ≡ true → f.folder ≡ true
    → starts_with nat_eq (plain_text p) (plain_text f) ≡ (same_path f p || is_below f p)
starts_with-plain_text p f is_p is_f folder =
    starts_with-begins (plain_text p) (plain_text f)
    ∙ ap (λ b. begins (plain_text p) (text_of f.names b)) folder
    ∙ begins-text_of f.names p.names p.folder (HasPath-from f is_f).named (HasPath-from p is_p).named
    ∙ ap (λ b. (pointwise bytes_eq f.names p.names && b) || is_inside f.names p.names) (true_flag p.folder)
    ∙ sym (ap (λ b. (pointwise bytes_eq f.names p.names && beq b p.folder) || (b && is_inside f.names p.names)) folder)
