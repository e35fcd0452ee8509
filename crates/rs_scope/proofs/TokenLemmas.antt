-- Tokens: sixteen bytes, and their digits.
use Rattle.std.proofs.Common.{◌≡◌, ℕ, ◌*◌, ◌/◌, ◌%◌, ◌<◌, true, ◌==◌, ◌&&◌, nat_lt, List, [], ◌∷◌, length, get_or, Some, Ok, Err, Result, arith, refl, sym, ap, ◌∙◌, suc, zero}
use Rattle.std.specs.List.{list_all}
use Rattle.std.specs.Result.{result_ok, MatchResult}
use Rattle.hex.specs.declared.error.FromHexError.{FromHexError}
use Rattle.std.proofs.lemmas.Bool.{and_parts, and_from, cond-true}
use Rattle.std.proofs.lemmas.Bool.Decides.{nat_tests}
use Rattle.std.proofs.lemmas.List.Elements.{All-get_or}
use Rattle.std.proofs.lemmas.List.Sums.{AllPass-from_list_all}
use Rattle.hex.specs.Hex.{decode_sized, encode_lower, encode_with, lower_digits, IsBytes}
use Rattle.hex.proofs.HexLemmas.{length-encode_with, decode_of-encode_lower, decode_of-ok, decode_sized-ok, decode_sized-twice}
use Rattle.rs_scope.specs.Tokens.{is_token, is_lower_digit, token_reading, token_text}

bytes_fit : (bytes : List ℕ) → ((i : ℕ) → get_or bytes i 0 < 256) → list_all (λ byte. nat_lt byte 256) bytes ≡ true
bytes_fit [] fit = refl
bytes_fit (byte ∷ bytes) fit =
    let first : byte < 256 = fit 0 in
    let test : nat_lt byte 256 ≡ true = grind (arith, nat_tests, first) in
    and_from _ _ test (bytes_fit bytes (λ i. fit (suc i)))

-- sixteen bytes are a token
pub is_token-from : (bytes : List ℕ) → length bytes ≡ 16 → ((i : ℕ) → get_or bytes i 0 < 256) → is_token bytes ≡ true
is_token-from bytes count fit =
    let test : (length bytes == 16) ≡ true = grind (arith, nat_tests, count) in and_from _ _ test (bytes_fit bytes fit)

small : (bytes : List ℕ) → list_all (λ byte. nat_lt byte 256) bytes ≡ true → IsBytes bytes
small [] all i = omega arith
small (byte ∷ bytes) all zero =
    let first = (and_parts (nat_lt byte 256) (list_all (λ byte. nat_lt byte 256) bytes) all).0 in
    let fits : byte < 256 = grind (arith, nat_tests, first) in fits
small (byte ∷ bytes) all (suc i) = small bytes (and_parts (nat_lt byte 256) (list_all (λ byte. nat_lt byte 256) bytes) all).1 i

pub record HasToken (bytes : List ℕ) : Type 0 where
  pub count : length bytes ≡ 16
  pub fit : IsBytes bytes

pub HasToken-from : (bytes : List ℕ) → is_token bytes ≡ true → HasToken bytes
HasToken-from bytes is =
    let parts = and_parts (length bytes == 16) (list_all (λ byte. nat_lt byte 256) bytes) is in
    let count = parts.0 in
    record { count = grind (arith, nat_tests, count); fit = small bytes parts.1 }

-- ---- the digits of a token are read as the token

digit_is_lower : (n : ℕ) → n < 16 → is_lower_digit (get_or lower_digits n 0) ≡ true
digit_is_lower n few = All-get_or (λ byte. is_lower_digit byte ≡ true) lower_digits n 0 few (AllPass-from_list_all is_lower_digit lower_digits refl)

digits_are_lower : (bytes : List ℕ) → IsBytes bytes → list_all is_lower_digit (encode_lower bytes) ≡ true
unfolding encode_with
digits_are_lower [] fit = refl
digits_are_lower (byte ∷ bytes) fit =
    let small : byte < 256 = fit 0 in
    and_from _ _ (digit_is_lower (byte / 16) (omega arith))
    (and_from _ _ (digit_is_lower (byte % 16) (omega arith)) (digits_are_lower bytes (λ i. fit (suc i))))

pub token_reading-text : (bytes : List ℕ) → is_token bytes ≡ true → token_reading (token_text bytes) ≡ Some bytes
token_reading-text bytes is =
    let has = HasToken-from bytes is in
    let count = has.count in
    let twice = length-encode_with lower_digits bytes in
    let long : (length (encode_lower bytes) == 32) ≡ true = grind (arith, nat_tests, count, twice) in
    let both : (length (encode_lower bytes) == 32 && list_all is_lower_digit (encode_lower bytes)) ≡ true = and_from _ _ long (digits_are_lower bytes has.fit) in
    let sized : length (encode_lower bytes) ≡ 2 * 16 = omega (arith, twice, count) in
    cond-true _ _ _ both ∙ ap result_ok (decode_sized-twice (encode_lower bytes) 16 sized ∙ decode_of-encode_lower bytes has.fit)

-- ---- what is decoded

decoded-fits : (text bytes : List ℕ) → decode_sized text 16 ≡ Ok bytes → is_token bytes ≡ true
decoded-fits text bytes read =
    let long = decode_sized-ok text 16 bytes read in
    let ok = decode_of-ok text bytes (sym (decode_sized-twice text 16 long) ∙ read) in
    let twice = ok.2 in
    is_token-from bytes (omega (arith, twice, long)) ok.3

-- sixteen bytes that were decoded are a token
pub decoded : (text out : List ℕ) (r : Result (Unit {0}) FromHexError)
    → MatchResult (decode_sized text 16) (λ bytes. (r ≡ Ok tt) × (out ≡ bytes)) (λ e. r ≡ Err e) → r ≡ Ok tt → is_token out ≡ true
decoded text out r told done = by (decode_sized text 16) refl told
  where
    by : (d : Result (List ℕ) FromHexError) → decode_sized text 16 ≡ d → MatchResult d (λ bytes. (r ≡ Ok tt) × (out ≡ bytes)) (λ e. r ≡ Err e)
        → is_token out ≡ true
    by (Ok bytes) read told = ap is_token told.1 ∙ decoded-fits text bytes read
    by (Err e) read told = absurd (cc)
