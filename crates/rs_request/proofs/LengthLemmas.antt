-- Facts on the digits of a length.
use Rattle.std.proofs.Common.{◌≡◌, ℕ, ◌+◌, ◌-◌, ◌*◌, ◌^◌, ◌<◌, ◌≤◌, zero, suc, true, false, cond, Bool, not, ◌&&◌, ◌||◌, List, [], ◌∷◌, length, get_or, take, Some, refl, sym, ap, ◌∙◌, arith}
use Rattle.std.specs.List.{list_all, list_any, find}
use Rattle.std.specs.Char.{is_ascii_digit, digit_value}
use Rattle.std.specs.Str.{all_ascii_digits}
use Rattle.std.specs.Str.Parse.{digits_value}
use Rattle.std.proofs.lemmas.Bool.{and_parts, leb-true}
use Rattle.std.proofs.lemmas.Bool.Decides.{nat_tests}
use Rattle.std.proofs.lemmas.Int.Digits.{digits_value_more}
use Rattle.std.proofs.lemmas.Str.Parse.{digits_value-take-le, digits_value_short, numerals_by_value, tells_all_ascii_digits}
use Rattle.rs_request.specs.declared.field.Field.{Field}
use Rattle.rs_request.specs.Framing.{is_length, is_length_field, has_bad_length}

-- the digit at an index of a length, and what it adds to the number
pub record IsStep (ds : List ℕ) (i : ℕ) : Type 0 where
  pub low : 48 ≤ get_or ds i 0
  pub high : get_or ds i 0 ≤ 57
  pub value : digits_value 10 (take (i + 1) ds) ≡ digits_value 10 (take i ds) * 10 + (get_or ds i 0 - 48)
  pub small : digits_value 10 (take (i + 1) ds) < 10 ^ 18

digit_passes : (ds : List ℕ) (i : ℕ) → i < length ds → list_all is_ascii_digit ds ≡ true → (48 ≤ get_or ds i 0) × (get_or ds i 0 ≤ 57)
digit_passes [] i inside all = absurd (omega arith)
digit_passes (d ∷ ds) zero inside all = let p = and_parts (is_ascii_digit d) (list_all is_ascii_digit ds) all in let h : is_ascii_digit d ≡ true = p.0 in (grind (arith, nat_tests), grind (arith, nat_tests))
digit_passes (d ∷ ds) (suc i) inside all = digit_passes ds i (omega arith) (and_parts (is_ascii_digit d) (list_all is_ascii_digit ds) all).1

pub length_step : (ds : List ℕ) (i : ℕ) → is_length ds ≡ true → i < length ds → IsStep ds i
unfolding is_length
length_step ds i valid inside =
    let parts = and_parts _ _ valid in
    let rest = and_parts _ (list_all is_ascii_digit ds) parts.1 in
    let own = numerals_by_value (λ ds. all_ascii_digits ds ≡ true) tells_all_ascii_digits in
    let digit = digit_passes ds i inside rest.1 in
    let d = get_or ds i 0 in
    let weight : digit_value d ≡ d - 48 = grind (arith, nat_tests) in
    record {
      low = digit.0;
      high = digit.1;
      value = digits_value_more 10 ds i inside ∙ ap (λ w. digits_value 10 (take i ds) * 10 + w) weight;
      small = omega (arith, digits_value_short own ds 18 rest.1 (leb-true _ _ rest.0), digits_value-take-le 10 ds (i + 1) (omega arith));
    }

-- a length that is no bad one is a length
pub first_length : (fields : List Field) (f : Field) → has_bad_length fields ≡ false → find is_length_field fields ≡ Some f
    → is_length f.value ≡ true
unfolding has_bad_length
first_length [] f none found = cc
first_length (g ∷ fields) f none found = by_name (is_length_field g) (is_length g.value) refl none found (λ later here. first_length fields f later here)
  where
    by_name : (named good : Bool) → is_length g.value ≡ good
        → ((named && not good) || list_any (λ f. is_length_field f && not (is_length f.value)) fields) ≡ false
        → cond named (Some g) (find is_length_field fields) ≡ Some f
        → (list_any (λ f. is_length_field f && not (is_length f.value)) fields ≡ false → find is_length_field fields ≡ Some f → is_length f.value ≡ true)
        → is_length f.value ≡ true
    by_name true true e none found again = let same : g ≡ f = cc in ap (λ h. is_length h.value) (sym same) ∙ e
    by_name true false e none found again = cc
    by_name false good e none found again = again none found
