-- The first wrong word stands behind the most words that took their places in a form.
use Rattle.std.proofs.Common.{◌≡◌, ℕ, ◌+◌, ◌-◌, ◌≤◌, max, Bool, true, false, List, [], ◌∷◌, map, Option, Some, None, Result, Ok, Err, length, take, drop, get_or, cond, refl, sym, ap, ◌∙◌, arith}
use Rattle.std.specs.Prelude.{◌&&◌, ◌||◌, ◌==◌}
use Rattle.std.proofs.lemmas.Bool.Decides.{nat_tests}
use Rattle.std.proofs.lemmas.List.{length-map, take_all}
use Rattle.rs_path.specs.Paths.{is_nil}
use Rattle.rs_cli.specs.declared.forms.Form.{Form}
use Rattle.rs_cli.specs.declared.command.WordFault.{WordFault}
use Rattle.rs_cli.specs.declared.command.WordFault.TheVariants.{Word, Https, NoMemory}
use Rattle.rs_cli.specs.Forms.{takes, named_places, tests_of, forms, forms_after, some_ends, first_wrong}
use Rattle.rs_cli.specs.Scans.{count_taken, fits, some_fits, most_taken}
use Rattle.rs_cli.specs.Commands.{FindsAmong, FindsForm}

abbrev Tests : Type 0
Tests = List (List ℕ → Bool)

-- ---- one word more

fits_or : (b : Bool) (going : List Tests) (tests : Tests) (words : List (List ℕ)) (rest : Bool) → rest ≡ some_fits going words
    → ((b && fits tests words) || rest) ≡ some_fits (cond b (tests ∷ going) going) words
fits_or true going tests words rest is = ap (λ r. fits tests words || r) is
fits_or false going tests words rest is = is

fits_next : (word : List ℕ) (words : List (List ℕ)) (going : List Tests) → some_fits going (word ∷ words) ≡ some_fits (forms_after word going) words
fits_next word words [] = refl
fits_next word words ([] ∷ others) = fits_next word words others
fits_next word words ((test ∷ tests) ∷ others) = fits_or (test word) (forms_after word others) tests words _ (fits_next word words others)

-- where no form goes on, none took a word
none_or : (b : Bool) (count : ℕ) (going : List Tests) (tests : Tests) (rest : ℕ) → is_nil (cond b (tests ∷ going) going) ≡ true → (is_nil going ≡ true → rest ≡ 0)
    → max (cond b (count + 1) 0) rest ≡ 0
none_or true count going tests rest nil none = absurd cc
none_or false count going tests rest nil none = let e = none nil in omega (arith, e)

none_next : (word : List ℕ) (words : List (List ℕ)) (going : List Tests) → is_nil (forms_after word going) ≡ true → most_taken going (word ∷ words) ≡ 0
none_next word words [] nil = refl
none_next word words ([] ∷ others) nil = let e = none_next word words others nil in omega (arith, e)
none_next word words ((test ∷ tests) ∷ others) nil =
    none_or (test word) (count_taken tests words) (forms_after word others) tests (most_taken others (word ∷ words)) nil (none_next word words others)

-- where some go on, they took one word more
more_or : (b : Bool) (going : List Tests) (tests : Tests) (words : List (List ℕ)) (rest : ℕ) → is_nil (cond b (tests ∷ going) going) ≡ false
    → (is_nil going ≡ true → rest ≡ 0) → (is_nil going ≡ false → rest ≡ most_taken going words + 1)
    → max (cond b (count_taken tests words + 1) 0) rest ≡ most_taken (cond b (tests ∷ going) going) words + 1
more_or true [] tests words rest some none more = let e = none refl in omega (arith, e)
more_or true (next ∷ going) tests words rest some none more = let e = more refl in omega (arith, e)
more_or false going tests words rest some none more = let e = more some in omega (arith, e)

more_next : (word : List ℕ) (words : List (List ℕ)) (going : List Tests) → is_nil (forms_after word going) ≡ false
    → most_taken going (word ∷ words) ≡ most_taken (forms_after word going) words + 1
more_next word words [] some = absurd cc
more_next word words ([] ∷ others) some = let e = more_next word words others some in omega (arith, e)
more_next word words ((test ∷ tests) ∷ others) some =
    more_or (test word) (forms_after word others) tests words (most_taken others (word ∷ words)) some (none_next word words others) (more_next word words others)

-- ---- no word left

ends_fit : (going : List Tests) → some_ends going ≡ some_fits going []
ends_fit [] = refl
ends_fit ([] ∷ others) = refl
ends_fit ((test ∷ tests) ∷ others) = ends_fit others

none_left : (going : List Tests) → most_taken going [] ≡ 0
none_left [] = refl
none_left ([] ∷ others) = let e = none_left others in omega (arith, e)
none_left ((test ∷ tests) ∷ others) = let e = none_left others in omega (arith, e)

-- ---- all words

wrong_or : (nil : Bool) (i : ℕ) (fit : Bool) (most next_most : ℕ) (later : Option ℕ) → later ≡ cond fit None (Some (i + 1 + next_most))
    → (nil ≡ true → most ≡ 0) → (nil ≡ true → fit ≡ false) → (nil ≡ false → most ≡ next_most + 1)
    → cond nil (Some i) later ≡ cond fit None (Some (i + most))
wrong_or true i fit most next_most later is none unfit more =
    ap Some (let e = none refl in omega (arith, e)) ∙ sym (ap (λ f. cond f None (Some (i + most))) (unfit refl))
wrong_or false i fit most next_most later is none unfit more =
    is ∙ ap (λ n. cond fit None (Some n)) (let e = more refl in omega (arith, e))

nil_fits : (going : List Tests) (words : List (List ℕ)) → is_nil going ≡ true → some_fits going words ≡ false
nil_fits [] words nil = refl
nil_fits (tests ∷ going) words nil = absurd cc

wrong_is : (i : ℕ) (going : List Tests) (words : List (List ℕ)) → first_wrong i going words ≡ cond (some_fits going words) None (Some (i + most_taken going words))
wrong_is i going [] =
    ap (λ b. cond b None (Some i)) (ends_fit going)
    ∙ ap (λ n. cond (some_fits going []) None (Some n)) (let e = none_left going in omega (arith, e))
wrong_is i going (word ∷ words) =
    let next = forms_after word going in
    wrong_or (is_nil next) i (some_fits next words) (most_taken going (word ∷ words)) (most_taken next words)
    (first_wrong (i + 1) next words) (wrong_is (i + 1) next words)
    (none_next word words going) (nil_fits next words) (more_next word words going)
    ∙ ap (λ b. cond b None (Some (i + most_taken going (word ∷ words)))) (sym (fits_next word words going))

-- ---- among forms

-- one form more, in which the words are not
pub among_more : (form : Form) (forms : List Form) (most count : ℕ) (found : Result Form WordFault) (words : List (List ℕ))
    → fits (tests_of form) words ≡ false → count ≡ count_taken (tests_of form) words
    → FindsAmong forms (max most count) found words → FindsAmong (form ∷ forms) most found words
among_more form forms most count (Ok it) words unfit counted found = (ap (λ b. b || some_fits (map tests_of forms) words) unfit ∙ found.0, found.1)
among_more form forms most count (Err (Word index)) words unfit counted found = (
  ap (λ b. b || some_fits (map tests_of forms) words) unfit ∙ found.0,
  let same = found.1 in omega (arith, same, counted),
)
among_more form forms most count (Err Https) words unfit counted found = absurd found
among_more form forms most count (Err NoMemory) words unfit counted found = tt

-- the first form, in which the words are
pub among_first : (form : Form) (forms : List Form) (most : ℕ) (words : List (List ℕ)) → fits (tests_of form) words ≡ true
    → FindsAmong (form ∷ forms) most (Ok form) words
among_first form forms most words fit = (ap (λ b. b || some_fits (map tests_of forms) words) fit, fit)

-- all forms
pub among_all : (found : Result Form WordFault) (words : List (List ℕ)) → FindsAmong forms 0 found words → FindsForm found words
among_all (Ok form) words found = (
  wrong_is 0 (map tests_of forms) words ∙ ap (λ b. cond b None (Some (0 + most_taken (map tests_of forms) words))) found.0,
  found.1,
)
among_all (Err (Word index)) words found =
    wrong_is 0 (map tests_of forms) words ∙ ap (λ b. cond b None (Some (0 + most_taken (map tests_of forms) words))) found.0
    ∙ ap Some (let same = found.1 in omega (arith, same))
among_all (Err Https) words found = absurd found
among_all (Err NoMemory) words found = tt

-- ---- counts

same_more : (n m more_n more_m : ℕ) → more_n ≡ n + 1 → more_m ≡ m + 1 → (n == m) ≡ (more_n == more_m)
same_more n m more_n more_m is same = grind (arith, nat_tests)

none_more : (n more : ℕ) → more ≡ n + 1 → (0 == more) ≡ false
none_more n more is = grind (arith, nat_tests)

more_none : (n more : ℕ) → more ≡ n + 1 → (more == 0) ≡ false
more_none n more is = grind (arith, nat_tests)

whole_or : (b : Bool) (count n m more_n more_m : ℕ) (fit : Bool) → more_n ≡ n + 1 → more_m ≡ m + 1 → fit ≡ ((count == n) && (m == n))
    → (b && fit) ≡ ((cond b (count + 1) 0 == more_n) && (more_m == more_n))
whole_or true count n m more_n more_m fit long row is =
    is ∙ ap (λ (e : Bool). e && (m == n)) (same_more count n (count + 1) more_n refl long)
    ∙ ap (λ (e : Bool). (count + 1 == more_n) && e) (same_more m n more_m more_n row long)
whole_or false count n m more_n more_m fit long row is = sym (ap (λ (e : Bool). e && (more_m == more_n)) (none_more n more_n long))

-- words are in a form exactly where all took their places and no place is left
fits_is : (tests : Tests) (words : List (List ℕ)) → fits tests words ≡ ((count_taken tests words == length words) && (length tests == length words))
fits_is [] [] = refl
fits_is [] (word ∷ words) =
    sym (ap (λ (e : Bool). e && (0 == length (word ∷ words))) (none_more (length words) (length (word ∷ words)) (omega arith)))
fits_is (test ∷ tests) [] = sym (more_none (length tests) (length (test ∷ tests)) (omega arith))
fits_is (test ∷ tests) (word ∷ words) =
    whole_or (test word) (count_taken tests words) (length words) (length tests) (length (word ∷ words)) (length (test ∷ tests)) (fits tests words)
    (omega arith) (omega arith) (fits_is tests words)

whole_is : {A : Type 0} (f : A → List ℕ) (form : Form) (words : List A) (count : ℕ) → count ≡ count_taken (tests_of form) (map f words)
    → ((count == length words) && (length (named_places form).places + 1 == length words)) ≡ fits (tests_of form) (map f words)
whole_is f form words count is =
    let ws : List (List ℕ) = map f words in
    let short = length-map (named_places form).places takes in
    let row : length (tests_of form) ≡ length (named_places form).places + 1 = omega (arith, short) in
    sym (fits_is (tests_of form) ws
    ∙ ap (λ (n : ℕ). (count_taken (tests_of form) ws == n) && (length (tests_of form) == n)) (length-map words f)
    ∙ ap (λ (n : ℕ). (n == length words) && (length (tests_of form) == length words)) (sym is)
    ∙ ap (λ (n : ℕ). (count == length words) && (n == length words)) row)

eq_true : (n m : ℕ) → n ≡ m → (n == m) ≡ true
eq_true n m same = grind (arith, nat_tests)

eq_false : (n m : ℕ) → (n ≡ m → ⊥) → (n == m) ≡ false
eq_false n m other = grind (arith, nat_tests)

pub whole_then : {A : Type 0} (f : A → List ℕ) (form : Form) (words : List A) (count n : ℕ) → count ≡ count_taken (tests_of form) (map f words)
    → count ≡ length words → n ≡ length (named_places form).places → (n + 1 == length words) ≡ fits (tests_of form) (map f words)
whole_then f form words count n is all row =
    ap (λ (k : ℕ). k + 1 == length words) row
    ∙ sym (ap (λ (b : Bool). b && (length (named_places form).places + 1 == length words)) (eq_true count (length words) all))
    ∙ whole_is f form words count is

pub whole_else : {A : Type 0} (f : A → List ℕ) (form : Form) (words : List A) (count : ℕ) → count ≡ count_taken (tests_of form) (map f words)
    → (count ≡ length words → ⊥) → (count == length words) ≡ fits (tests_of form) (map f words)
whole_else f form words count is some =
    let other = eq_false count (length words) some in
    other ∙ sym (ap (λ (b : Bool). b && (length (named_places form).places + 1 == length words)) other) ∙ whole_is f form words count is

-- ---- the first of a slice, and the others

pub begins : {A : Type 0} (xs : List A) (x : A) → 1 ≤ length xs → x ≡ get_or xs 0 x → xs ≡ x ∷ take (length xs - 1) (drop 1 xs)
begins [] x some is = absurd (omega (arith, some))
begins (first ∷ others) x some is =
    ap (λ (y : _). y ∷ others) (sym is) ∙ ap (λ (ys : List _). x ∷ ys) (sym (take_all (length (first ∷ others) - 1) others (omega arith)))
