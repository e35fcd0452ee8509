use Rattle.std.proofs.Common.{◌≡◌, ℕ, ◌+◌, ◌%◌, ◌<◌, ◌^◌, true, List, [], ◌∷◌, ◌++◌, decimal, arith}
use Rattle.std.proofs.lemmas.Bool.Decides.{nat_tests}
use Rattle.std.proofs.lemmas.Fmt.{decimal_by_steps, decimal_nonempty, length-decimal-le}
use Rattle.std.proofs.lemmas.List.Folds.{list_all-append}
use Rattle.rs_path.specs.Tags.{is_tag, has_no_quote}
use Rattle.rs_path.proofs.tag.Tag.of.Goals as goal

one_digit : (n : ℕ) → n < 10 → has_no_quote ((48 + n) ∷ []) ≡ true
one_digit n small = grind (arith, nat_tests)

more_digits : (n : ℕ) (ds : List ℕ) → has_no_quote ds ≡ true → has_no_quote (ds ++ ((48 + n % 10) ∷ [])) ≡ true
more_digits n ds clean = rw list_all-append (grind (arith, nat_tests))

-- a decimal has digits alone
has_no_quote-decimal : (n : ℕ) → n < 2 ^ 64 → has_no_quote (decimal n) ≡ true
has_no_quote-decimal n small =
    decimal_by_steps (λ _ ds. has_no_quote ds ≡ true) one_digit (λ n ds _ clean. more_digits n ds clean) n small

is_tag-decimal : (n : ℕ) → n < 2 ^ 64 → is_tag (decimal n) ≡ true
is_tag-decimal n small =
    let some = decimal_nonempty n small in
    let short = length-decimal-le 20 n in
    let clean = has_no_quote-decimal n small in
    grind (arith, nat_tests)

pub invariant_of-result : goal.invariant_of-result
invariant_of-result c =
    rw (c.in_ok-from_slice.ensures.items, c.as_bytes.ensures.value, c.format.ensures.text) (is_tag-decimal _ (omega arith))
