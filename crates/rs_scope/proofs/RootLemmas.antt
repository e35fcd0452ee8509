-- The roots of scopes: in order, each once, and holding what the scopes let read.
use Rattle.std.proofs.Common.{◌≡◌, ℕ, ◌+◌, ◌<◌, ◌≤◌, Bool, true, false, not, ◌&&◌, ◌||◌, ◌==◌, nat_lt, nat_le, List, [], ◌∷◌, ◌++◌, length, take, drop, get_or, All, arith, refl, sym, ap, ◌∙◌, suc, zero, ⊎_elim, append_assoc}
use Rattle.std.specs.List.{list_any, list_all, insert}
use Rattle.std.specs.declared.cmp.Ordering.{Ordering}
use Rattle.std.specs.declared.cmp.Ordering.TheVariants.{Less, Equal, Greater}
use Rattle.std.specs.Ordering.{is_lt, is_eq, ordering_reverse}
use Rattle.std.proofs.lemmas.Bool.{cases_Bool, and_parts, and_from, or_parts, cond-true, cond-false}
use Rattle.std.proofs.lemmas.Bool.Decides.{nat_tests}
use Rattle.std.proofs.lemmas.List.{take-append-drop, take_all, drop_all}
use Rattle.std.proofs.lemmas.List.Elements.{All-nil, All-cons}
use Rattle.std.proofs.lemmas.Str.{IsUtf8-from_ascii, is_utf8-from_IsUtf8}
use Rattle.std.proofs.lemmas.Str.Ascii.{IsAscii-from_all}
use Rattle.rs_path.specs.Names.{is_name, is_dots, has_no_separator}
use Rattle.rs_path.specs.Paths.{Path, is_path, is_nil, folder_at, same_path, path_cmp}
use Rattle.rs_path.specs.PathOrder.{same_path-Decides, path_ties, path_cmp_total}
use Rattle.rs_scope.specs.declared.method.Method.TheVariants.{Get}
use Rattle.rs_scope.specs.declared.scope.Reach.{Reach}
use Rattle.rs_scope.specs.declared.scope.Reach.TheVariants.{Module, Star}
use Rattle.rs_scope.specs.declared.scope.Scope.{Scope}
use Rattle.rs_scope.specs.Modules.{is_module, is_module_byte, public_name}
use Rattle.rs_scope.specs.Reach.{is_within, module_folder, public_folder, covers, allows, reach_of}
use Rattle.rs_scope.specs.Roots.{is_all, is_star, placed_root, with_root, with_reach, with_modules, roots_of, are_ascending, is_root_by}
use Rattle.rs_scope.proofs.ScopeLemmas.{HasModule-from}

-- ---- a module's name is a name

no_separator : (text : List ℕ) → list_all is_module_byte text ≡ true → has_no_separator text ≡ true
no_separator [] all = refl
no_separator (byte ∷ text) all =
    let parts = and_parts (is_module_byte byte) (list_all is_module_byte text) all in
    let first = parts.0 in
    let plain : (not (byte == 47) && not (byte == 0)) ≡ true = grind (arith, nat_tests, first) in
    and_from _ _ plain (no_separator text parts.1)

all_small : (text : List ℕ) → list_all is_module_byte text ≡ true → All (λ byte. byte < 128) text
all_small [] all = All-nil (λ byte. byte < 128)
all_small (byte ∷ text) all =
    let parts = and_parts (is_module_byte byte) (list_all is_module_byte text) all in
    let first = parts.0 in
    All-cons (λ byte. byte < 128) byte text (grind (arith, nat_tests, first)) (all_small text parts.1)

name_from : (text : List ℕ) → list_all is_module_byte text ≡ true → 0 < length text → length text ≤ 64 → is_dots text ≡ false → is_name text ≡ true
name_from text all some short dots =
    let one : nat_lt 0 (length text) ≡ true = grind (arith, nat_tests, some) in
    let two : nat_le (length text) 255 ≡ true = grind (arith, nat_tests, short) in
    let named : not (is_dots text) ≡ true = ap not dots in
    let utf8 = is_utf8-from_IsUtf8 text (IsUtf8-from_ascii text (IsAscii-from_all text (all_small text all))) in
    and_from _ _ (and_from _ _ (and_from _ _ (and_from _ _ one two) (no_separator text all)) named) utf8

pub is_name-module : (text : List ℕ) → is_module text ≡ true → is_name text ≡ true
is_name-module text named = let has = HasModule-from text named in name_from text has.bytes has.some has.short has.no_dots

pub is_name-public : is_name public_name ≡ true
is_name-public = name_from public_name refl (omega arith) (omega arith) refl

-- ---- a root in its place

-- so far the root is greater than all, and belongs behind them
abbrev pub SoFar : Path → List Path → ℕ → Type 0
SoFar root roots i = with_root root roots ≡ take i roots ++ with_root root (drop i roots)

tied_same : (p q : Path) → path_cmp p q ≡ Equal → p ≡ q
tied_same p q tied = (same_path-Decides p q).0 (path_ties p q ∙ ap is_eq tied)

at_drop : (roots : List Path) (i : ℕ) (d : Path) → i < length roots → drop i roots ≡ get_or roots i d ∷ drop (suc i) roots
at_drop [] i d within = absurd (omega arith)
at_drop (root ∷ roots) zero d within = refl
at_drop (root ∷ roots) (suc i) d within = at_drop roots i d (omega arith)

take_more : (roots : List Path) (i : ℕ) (d : Path) → i < length roots → take (suc i) roots ≡ take i roots ++ get_or roots i d ∷ []
take_more [] i d within = absurd (omega arith)
take_more (root ∷ roots) zero d within = refl
take_more (root ∷ roots) (suc i) d within = ap (λ t. root ∷ t) (take_more roots i d (omega arith))

-- the root belongs before the one at the index
pub before_this : (root : Path) (roots : List Path) (i : ℕ) (d : Path) → i < length roots → SoFar root roots i → path_cmp root (get_or roots i d) ≡ Less
    → with_root root roots ≡ insert roots i root
before_this root roots i d within so_far less =
    let here = at_drop roots i d within in
    so_far
    ∙ ap (λ t. take i roots ++ with_root root t) here
    ∙ ap (λ o. take i roots ++ placed_root o root (get_or roots i d) (drop (suc i) roots) (with_root root (drop (suc i) roots))) less
    ∙ ap (λ t. take i roots ++ root ∷ t) (sym here)

-- the root is the one at the index
pub this_one : (root : Path) (roots : List Path) (i : ℕ) (d : Path) → i < length roots → SoFar root roots i → path_cmp root (get_or roots i d) ≡ Equal
    → with_root root roots ≡ roots
this_one root roots i d within so_far equal =
    let here = at_drop roots i d within in
    so_far
    ∙ ap (λ t. take i roots ++ with_root root t) here
    ∙ ap (λ o. take i roots ++ placed_root o root (get_or roots i d) (drop (suc i) roots) (with_root root (drop (suc i) roots))) equal
    ∙ ap (λ t. take i roots ++ t) (sym here)
    ∙ take-append-drop i roots

-- the root belongs behind the one at the index
pub behind_this : (root : Path) (roots : List Path) (i : ℕ) (d : Path) → i < length roots → SoFar root roots i → path_cmp root (get_or roots i d) ≡ Greater
    → SoFar root roots (i + 1)
behind_this root roots i d within so_far greater =
    let here = at_drop roots i d within in
    let next : i + 1 ≡ suc i = omega arith in
    so_far
    ∙ ap (λ t. take i roots ++ with_root root t) here
    ∙ ap (λ o. take i roots ++ placed_root o root (get_or roots i d) (drop (suc i) roots) (with_root root (drop (suc i) roots))) greater
    ∙ sym (append_assoc (take i roots) (get_or roots i d ∷ []) (with_root root (drop (suc i) roots)))
    ∙ ap (λ t. t ++ with_root root (drop (suc i) roots)) (sym (take_more roots i d within))
    ∙ ap (λ n. take n roots ++ with_root root (drop n roots)) (sym next)

-- the root belongs behind all
pub behind_all : (root : Path) (roots : List Path) (i : ℕ) → length roots ≤ i → SoFar root roots i → with_root root roots ≡ insert roots (length roots) root
behind_all root roots i past so_far =
    so_far
    ∙ ap (λ t. take i roots ++ with_root root t) (drop_all i roots past)
    ∙ ap (λ t. t ++ root ∷ []) (take_all i roots past ∙ sym (take_all (length roots) roots (omega arith)))
    ∙ ap (λ t. take (length roots) roots ++ root ∷ t) (sym (drop_all (length roots) roots (omega arith)))

-- ---- what the roots hold

swap_first : (a b c : Bool) → (b || (a || c)) ≡ (a || (b || c))
swap_first true true c = refl
swap_first true false c = refl
swap_first false b c = refl

twice_or : (a c : Bool) → (a || c) ≡ (a || (a || c))
twice_or true c = refl
twice_or false c = refl

placed-any : (test : Path → Bool) (root other : Path) (rest behind : List Path) (o : Ordering) → path_cmp root other ≡ o
    → list_any test behind ≡ (test root || list_any test rest)
    → list_any test (placed_root o root other rest behind) ≡ (test root || (test other || list_any test rest))
placed-any test root other rest behind Less is later = refl
placed-any test root other rest behind Equal is later =
    twice_or (test other) (list_any test rest) ∙ ap (λ p. test p || (test other || list_any test rest)) (sym (tied_same root other is))
placed-any test root other rest behind Greater is later = ap (λ b. test other || b) later ∙ swap_first (test root) (test other) (list_any test rest)

-- a test of each root is a test of what was put in and of what was there
pub with_root-any : (test : Path → Bool) (root : Path) (roots : List Path) → list_any test (with_root root roots) ≡ (test root || list_any test roots)
with_root-any test root [] = refl
with_root-any test root (other ∷ roots) =
    placed-any test root other roots (with_root root roots) (path_cmp root other) refl (with_root-any test root roots)

-- a test of the folders of a module, or of none for a star
abbrev pub folders_any : (Path → Bool) → Reach → Bool
folders_any test (Module name) = test (public_folder name) || test (module_folder name)
folders_any test Star = false

or_assoc : (a b c : Bool) → (a || (b || c)) ≡ ((a || b) || c)
or_assoc true b c = refl
or_assoc false b c = refl

with_reach-any : (test : Path → Bool) (roots : List Path) (reach : Reach) → list_any test (with_reach roots reach) ≡ (folders_any test reach || list_any test roots)
with_reach-any test roots (Module name) =
    with_root-any test (public_folder name) (with_root (module_folder name) roots)
    ∙ ap (λ b. test (public_folder name) || b) (with_root-any test (module_folder name) roots)
    ∙ or_assoc (test (public_folder name)) (test (module_folder name)) (list_any test roots)
with_reach-any test roots Star = refl

or_between : (a b c : Bool) → ((a || b) || c) ≡ (b || (a || c))
or_between true true c = refl
or_between true false c = refl
or_between false b c = refl

with_modules-any : (test : Path → Bool) (roots : List Path) (scopes : List Scope)
    → list_any test (with_modules roots scopes) ≡ (list_any test roots || list_any (λ scope. folders_any test scope.reach) scopes)
with_modules-any test roots [] = sym (or_false (list_any test roots))
  where
    or_false : (a : Bool) → (a || false) ≡ a
    or_false true = refl
    or_false false = refl
with_modules-any test roots (scope ∷ scopes) =
    with_modules-any test (with_reach roots scope.reach) scopes
    ∙ ap (λ b. b || list_any (λ scope. folders_any test scope.reach) scopes) (with_reach-any test roots scope.reach)
    ∙ or_between (folders_any test scope.reach) (list_any test roots) (list_any (λ scope. folders_any test scope.reach) scopes)

-- scopes without a star: a test of the roots is one of their folders
roots_of-any : (test : Path → Bool) (scopes : List Scope) → list_any is_star scopes ≡ false
    → list_any test (roots_of scopes) ≡ list_any (λ scope. folders_any test scope.reach) scopes
roots_of-any test scopes no_star = ap (list_any test) (cond-false _ _ _ no_star) ∙ with_modules-any test [] scopes

same_any : {X : Type 0} (f g : X → Bool) (xs : List X) → ((x : X) → f x ≡ g x) → list_any f xs ≡ list_any g xs
same_any f g [] each = refl
same_any f g (x ∷ xs) each = rw (each x, same_any f g xs each) refl

same_any_but : {X : Type 0} (skip f g : X → Bool) (xs : List X) → list_any skip xs ≡ false → ((x : X) → skip x ≡ false → f x ≡ g x) → list_any f xs ≡ list_any g xs
same_any_but skip f g [] none each = refl
same_any_but skip f g (x ∷ xs) none each =
    let parts = or_parts (skip x) (list_any skip xs) none in
    rw (each x parts.0, same_any_but skip f g xs parts.1 each) refl

reads : (write covered : Bool) → ((write || true) && covered) ≡ covered
reads true covered = refl
reads false covered = refl

swap_or : (a b : Bool) → (a || b) ≡ (b || a)
swap_or true true = refl
swap_or true false = refl
swap_or false true = refl
swap_or false false = refl

covers_folders : (reach : Reach) (path : Path) → is_all reach ≡ false → folders_any (λ root. is_within root path) reach ≡ covers reach path
covers_folders (Module name) path named = swap_or (is_within (public_folder name) path) (is_within (module_folder name) path)
covers_folders Star path named = absurd (cc)

within_root : (path : Path) → is_path path ≡ true → is_within (folder_at []) path ≡ true
within_root path is = within path.names path.folder (and_parts _ (path.folder || not (is_nil path.names)) is).1
  where
    within : (names : List (List ℕ)) (folder : Bool) → (folder || not (is_nil names)) ≡ true → is_within (folder_at []) (record { names = names; folder = folder }) ≡ true
    within [] true some = refl
    within [] false some = absurd (cc)
    within (name ∷ names) folder some = refl

star_covers : (reach : Reach) (path : Path) → is_all reach ≡ true → covers reach path ≡ true
star_covers (Module name) path star = absurd (cc)
star_covers Star path star = refl

star_reaches : (scopes : List Scope) (path : Path) → list_any is_star scopes ≡ true → reach_of scopes Get path ≡ true
star_reaches [] path star = absurd (cc)
star_reaches (scope ∷ scopes) path star =
    ⊎_elim
    (λ here. ap (λ b. b || reach_of scopes Get path) (reads scope.write (covers scope.reach path) ∙ star_covers scope.reach path here))
    (λ other. let later : list_any is_star scopes ≡ true = sym (ap (λ b. b || list_any is_star scopes) other) ∙ star in
    grind (arith, nat_tests, star_reaches scopes path later))
    (cases_Bool (is_star scope))

-- the roots hold just what the scopes let read
pub roots_hold : (scopes : List Scope) (path : Path) → is_path path ≡ true → list_any (λ root. is_within root path) (roots_of scopes) ≡ reach_of scopes Get path
roots_hold scopes path is =
    ⊎_elim
    (λ star. ap (list_any (λ root. is_within root path)) (cond-true _ _ _ star)
    ∙ ap (λ b. b || false) (within_root path is)
    ∙ sym (star_reaches scopes path star))
    (λ no_star. roots_of-any (λ root. is_within root path) scopes no_star
    ∙ same_any_but is_star (λ scope. folders_any (λ root. is_within root path) scope.reach) (λ scope. allows scope Get path) scopes no_star
    (λ scope named. covers_folders scope.reach path named ∙ sym (reads scope.write (covers scope.reach path))))
    (cases_Bool (list_any is_star scopes))

root_folders : (reach : Reach) (path : Path) → is_all reach ≡ false → folders_any (same_path path) reach ≡ is_root_by reach path
root_folders (Module name) path named = refl
root_folders Star path named = absurd (cc)

-- and they are the folders of each module
pub roots_are : (scopes : List Scope) (path : Path) → list_any is_star scopes ≡ false
    → list_any (same_path path) (roots_of scopes) ≡ list_any (λ scope. is_root_by scope.reach path) scopes
roots_are scopes path no_star =
    roots_of-any (same_path path) scopes no_star
    ∙ same_any_but is_star (λ scope. folders_any (same_path path) scope.reach) (λ scope. is_root_by scope.reach path) scopes no_star
    (λ scope named. root_folders scope.reach path named)

-- ---- the roots are in order

is_less : (o : Ordering) → is_lt o ≡ true → o ≡ Less
is_less Less less = refl
is_less Equal less = absurd (cc)
is_less Greater less = absurd (cc)

turned : (o : Ordering) → Greater ≡ ordering_reverse o → o ≡ Less
turned Less back = refl
turned Equal back = absurd (cc)
turned Greater back = absurd (cc)

-- what is greater than a path is greater than all before it
above_all : (root other : Path) (roots : List Path) → path_cmp root other ≡ Less → list_all (λ path. is_lt (path_cmp other path)) roots ≡ true
    → list_all (λ path. is_lt (path_cmp root path)) roots ≡ true
above_all root other [] less all = refl
above_all root other (path ∷ roots) less all =
    let parts = and_parts (is_lt (path_cmp other path)) (list_all (λ path. is_lt (path_cmp other path)) roots) all in
    and_from _ _ (ap is_lt (path_cmp_total.trans root other path less (is_less (path_cmp other path) parts.0))) (above_all root other roots less parts.1)

placed-all : (test : Path → Bool) (root other : Path) (rest behind : List Path) (o : Ordering) → test root ≡ true → list_all test (other ∷ rest) ≡ true
    → (list_all test rest ≡ true → list_all test behind ≡ true) → list_all test (placed_root o root other rest behind) ≡ true
placed-all test root other rest behind Less first all later = and_from _ _ first all
placed-all test root other rest behind Equal first all later = all
placed-all test root other rest behind Greater first all later =
    let parts = and_parts (test other) (list_all test rest) all in and_from _ _ parts.0 (later parts.1)

-- what holds of the root and of all holds of all with the root in its place
all_with_root : (test : Path → Bool) (root : Path) (roots : List Path) → test root ≡ true → list_all test roots ≡ true → list_all test (with_root root roots) ≡ true
all_with_root test root [] first all = and_from _ _ first refl
all_with_root test root (other ∷ roots) first all =
    placed-all test root other roots (with_root root roots) (path_cmp root other) first all (all_with_root test root roots first)

-- the path is smaller than all these
abbrev is_below_all : Path → List Path → Bool
is_below_all path roots = list_all (λ other. is_lt (path_cmp path other)) roots

placed-ascending : (root other : Path) (rest : List Path) (o : Ordering) → path_cmp root other ≡ o → are_ascending (other ∷ rest) ≡ true
    → (are_ascending rest ≡ true → are_ascending (with_root root rest) ≡ true)
    → are_ascending (placed_root o root other rest (with_root root rest)) ≡ true
placed-ascending root other rest Less is order later =
    let parts = and_parts (is_below_all other rest) (are_ascending rest) order in
    and_from _ _ (and_from _ _ (ap is_lt is) (above_all root other rest is parts.0)) order
placed-ascending root other rest Equal is order later = order
placed-ascending root other rest Greater is order later =
    let parts = and_parts (is_below_all other rest) (are_ascending rest) order in
    let less = turned (path_cmp other root) (sym is ∙ path_cmp_total.antisymm root other) in
    and_from _ _ (all_with_root (λ path. is_lt (path_cmp other path)) root rest (ap is_lt less) parts.0) (later parts.1)

with_root-ascending : (root : Path) (roots : List Path) → are_ascending roots ≡ true → are_ascending (with_root root roots) ≡ true
with_root-ascending root [] order = refl
with_root-ascending root (other ∷ roots) order = placed-ascending root other roots (path_cmp root other) refl order (with_root-ascending root roots)

with_reach-ascending : (roots : List Path) (reach : Reach) → are_ascending roots ≡ true → are_ascending (with_reach roots reach) ≡ true
with_reach-ascending roots (Module name) order =
    with_root-ascending (public_folder name) (with_root (module_folder name) roots) (with_root-ascending (module_folder name) roots order)
with_reach-ascending roots Star order = order

with_modules-ascending : (roots : List Path) (scopes : List Scope) → are_ascending roots ≡ true → are_ascending (with_modules roots scopes) ≡ true
with_modules-ascending roots [] order = order
with_modules-ascending roots (scope ∷ scopes) order = with_modules-ascending (with_reach roots scope.reach) scopes (with_reach-ascending roots scope.reach order)

pub roots_ascend : (scopes : List Scope) → are_ascending (roots_of scopes) ≡ true
roots_ascend scopes =
    ⊎_elim
    (λ star. ap are_ascending (cond-true _ _ _ star))
    (λ no_star. ap are_ascending (cond-false _ _ _ no_star) ∙ with_modules-ascending [] scopes refl)
    (cases_Bool (list_any is_star scopes))
