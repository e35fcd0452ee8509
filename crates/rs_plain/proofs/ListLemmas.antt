-- An element found in a list, and taken out of it.
use Rattle.std.proofs.Common.{◌≡◌, ℕ, ◌+◌, ◌<◌, Bool, true, false, not, ◌||◌, cond, List, [], ◌∷◌, length, get_or, filter, Some, None, nat_lt, position, arith, sym, ap, ◌∙◌, zero, suc, ⊎_elim}
use Rattle.std.specs.List.{list_any, remove, position_or_len}
use Rattle.std.proofs.lemmas.Bool.Decides.{nat_tests}
use Rattle.std.proofs.lemmas.Bool.{cases_Bool, cond-true, cond-false, true≢false}

-- without an element that doesn't pass, a list has the same elements that pass
pub filter_without : {X : Type 0} (p : X → Bool) (xs : List X) (i : ℕ) (d : X) → i < length xs → p (get_or xs i d) ≡ false
    → filter p (remove xs i) ≡ filter p xs
filter_without p [] i d within out = absurd (omega (arith, within))
filter_without p (x ∷ xs) zero d within out = sym (cond-false (p x) (x ∷ filter p xs) (filter p xs) out)
filter_without p (x ∷ xs) (suc i) d within out =
    let rest : i < length xs = omega (arith, within) in ap (λ l. cond (p x) (x ∷ l) l) (filter_without p xs i d rest out)

-- something passes: its place is within the list
place_within : {X : Type 0} (p : X → Bool) (xs : List X) → list_any p xs ≡ true → position_or_len p xs < length xs
place_within p [] there = absurd (true≢false (sym there))
place_within p (x ∷ xs) there =
    ⊎_elim
    (λ hit.
    let first : position_or_len p (x ∷ xs) ≡ 0 = cond-false (not (p x)) (1 + position_or_len p xs) 0 (ap not hit) in
    omega (arith, first))
    (λ clear.
    let later : position_or_len p (x ∷ xs) ≡ 1 + position_or_len p xs = cond-true (not (p x)) (1 + position_or_len p xs) 0 (ap not clear) in
    let rest : position_or_len p xs < length xs = place_within p xs (sym (ap (λ b. b || list_any p xs) clear) ∙ there) in
    omega (arith, later, rest))
    (cases_Bool (p x))

pub has_place : {X : Type 0} (p : X → Bool) (xs : List X) → list_any p xs ≡ true → position p xs ≡ Some (position_or_len p xs)
has_place p xs there =
    let within = place_within p xs there in
    let test : nat_lt (position_or_len p xs) (length xs) ≡ true = grind (arith, nat_tests, within) in
    cond-true (nat_lt (position_or_len p xs) (length xs)) (Some (position_or_len p xs)) None test
