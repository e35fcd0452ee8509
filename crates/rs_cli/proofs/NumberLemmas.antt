-- Numerals that are too large.
use Rattle.std.proofs.Common.{◌≡◌, ℕ, ◌^◌, ◌<◌, Bool, true, false, List, length, Some, None, Result, Err, cond, refl, ap, subst, arith, rules}
use Rattle.std.specs.Prelude.{nat_lt, nat_le, ◌&&◌}
use Rattle.std.specs.List.{list_all}
use Rattle.std.specs.Char.{is_ascii_digit}
use Rattle.std.specs.Str.Parse.{digits_value, ParsesUnsigned}
use Rattle.std.proofs.lemmas.Bool.{and_parts}
use Rattle.std.proofs.lemmas.Bool.Decides.{nat_tests}
use Rattle.std.proofs.lemmas.Str.Parse.{IsNumeralModel, numerals_by_value, parse_digits}
use Rattle.rs_cli.specs.Numbers.{is_numeral, number_spelled}

own : IsNumeralModel (λ ds. list_all is_ascii_digit ds ≡ true) (digits_value 10)
own = numerals_by_value _ (search rules)

decide_false : (b : Bool) → (b ≡ true → ⊥) → b ≡ false
decide_false true never = absurd (never refl)
decide_false false never = refl

less : (n m : ℕ) → nat_lt n m ≡ true → n < m
less n m is = grind (arith, nat_tests)

some : (n : ℕ) → nat_le 1 n ≡ true → 0 < n
some n is = grind (arith, nat_tests)

none : (a b : Bool) (n : ℕ) → b ≡ false → cond (a && b) (Some n) None ≡ None
none true b n is = ap (λ (c : Bool). cond c (Some n) None) is
none false b n is = refl

-- a numeral that isn't read
refused : {E : Type 0} (word : List ℕ) (e : E) → ParsesUnsigned 64 10 word (Err e) → is_numeral word ≡ true → number_spelled word ≡ None
refused word e parsed numeral =
    let parts = and_parts (list_all is_ascii_digit word) _ numeral in
    let long = and_parts (nat_le 1 (length word)) _ parts.1 in
    let never = parse_digits own 64 word (Err e) parsed parts.0 in
    none (is_numeral word) _ (digits_value 10 word)
    (decide_false (nat_lt (digits_value 10 word) (2 ^ 64)) (λ is. never (some (length word) long.0, less _ _ is)))

pub too_large : {E : Type 0} (word : List ℕ) (r : Result ℕ E) (e : E) → r ≡ Err e → ParsesUnsigned 64 10 word r → is_numeral word ≡ true → number_spelled word ≡ None
too_large word r e is parsed numeral = refused word e (subst (λ result. ParsesUnsigned 64 10 word result) is parsed) numeral
