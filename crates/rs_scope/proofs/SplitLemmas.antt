-- How a text is cut where a byte passes a test.
use Rattle.std.proofs.Common.{◌≡◌, ℕ, ◌+◌, ◌<◌, ◌≤◌, Bool, false, ltb, List, ◌∷◌, [], length, take, drop, Some, None, position, arith, sym, ◌∙◌, ⊎_elim}
use Rattle.std.specs.List.{slice_split, position_or_len}
use Rattle.std.proofs.lemmas.Bool.{cases_Bool, cond-true, cond-false}
use Rattle.std.proofs.lemmas.Bool.Decides.{nat_tests}
use Rattle.std.proofs.lemmas.List.Elements.{All-from_get_or}
use Rattle.std.proofs.lemmas.List.Sums.{fails_before_first}
use Rattle.std.proofs.lemmas.List.Splits.{slice_split_first, slice_split_none}

-- the text is cut at the first byte that passes
pub split_at_first : (test : ℕ → Bool) (text : List ℕ) (end : ℕ) → position test text ≡ Some end
    → (end < length text) × (slice_split test text ≡ take end text ∷ slice_split test (drop (end + 1) text))
split_at_first test text end found =
    ⊎_elim
    (λ inside. let within : position_or_len test text < length text = grind (arith, nat_tests, inside) in
    let here : position_or_len test text ≡ end = let at : Some (position_or_len test text) ≡ Some end = sym (cond-true _ _ _ inside) ∙ found in cc in
    (rw (← here) within, rw (← here) (slice_split_first test text 0 within)))
    (λ outside. let none : None ≡ Some end = sym (cond-false _ _ _ outside) ∙ found in absurd (cc))
    (cases_Bool (ltb (position_or_len test text) (length text)))

-- a text where none passes is one part
pub split_whole : (test : ℕ → Bool) (text : List ℕ) → position test text ≡ None → slice_split test text ≡ text ∷ []
split_whole test text none =
    ⊎_elim
    (λ inside. let found : Some (position_or_len test text) ≡ None = sym (cond-true _ _ _ inside) ∙ none in absurd (cc))
    (λ outside. let past : length text ≤ position_or_len test text = grind (arith, nat_tests, outside) in
    slice_split_none test text (All-from_get_or (λ byte. test byte ≡ false) text 0 (λ i within. fails_before_first test text i 0 (omega arith))))
    (cases_Bool (ltb (position_or_len test text) (length text)))
