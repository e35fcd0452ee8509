-- The bytes of a text fit a byte.
use Rattle.std.proofs.Common.{◌≡◌, ℕ, ◌+◌, ◌/◌, ◌%◌, ◌<◌, nat_lt, List, [], ◌∷◌, true, All, IsUtf8, arith, subst, ⊎_elim}
use Rattle.std.proofs.lemmas.Bool.{and_parts, cond_both}
use Rattle.std.proofs.lemmas.Bool.Decides.{nat_tests}
use Rattle.std.proofs.lemmas.List.Elements.{All-nil, All-cons, All-append}
use lib.Utf8.{scalar, scalars, encode, encodes, scalar_cases}

abbrev pub IsByte : ℕ → Type 0
IsByte byte = byte < 256

byte_list : (a : ℕ) (rest : List ℕ) → a < 256 → All IsByte rest → All IsByte (a ∷ rest)
byte_list a rest small others = All-cons IsByte a rest small others

scalar_below : (c : ℕ) → scalar c ≡ true → c < 1114112
scalar_below c is_scalar = ⊎_elim (λ low. omega arith) (λ high. high.1) (scalar_cases c is_scalar)

All-encode : (c : ℕ) → scalar c ≡ true → All IsByte (encode c)
unfolding encode
All-encode c is_scalar =
    let below = scalar_below c is_scalar in
    let none = All-nil IsByte in
    let last = byte_list (128 + c % 64) [] (omega arith) none in
    let third = byte_list (128 + c / 64 % 64) ((128 + c % 64) ∷ []) (omega arith) last in
    let second = byte_list (128 + c / 4096 % 64) ((128 + c / 64 % 64) ∷ (128 + c % 64) ∷ []) (omega arith) third in
    cond_both (nat_lt c 128) _ _ (All IsByte) (λ one. byte_list c [] (grind (arith, nat_tests)) none)
    (λ _. cond_both (nat_lt c 2048) _ _ (All IsByte)
    (λ two. let small : c < 2048 = grind (arith, nat_tests) in byte_list (192 + c / 64) ((128 + c % 64) ∷ []) (omega arith) last)
    (λ _. cond_both (nat_lt c 65536) _ _ (All IsByte)
    (λ three. let small : c < 65536 = grind (arith, nat_tests) in byte_list (224 + c / 4096) ((128 + c / 64 % 64) ∷ (128 + c % 64) ∷ []) (omega arith) third)
    (λ _. byte_list (240 + c / 262144) ((128 + c / 4096 % 64) ∷ (128 + c / 64 % 64) ∷ (128 + c % 64) ∷ []) (omega arith) second)))

All-encodes : (cs : List ℕ) → scalars cs ≡ true → All IsByte (encodes cs)
All-encodes [] all = All-nil IsByte
All-encodes (c ∷ cs) all =
    let parts = and_parts (scalar c) (scalars cs) all in
    All-append IsByte (encode c) (encodes cs) (All-encode c parts.0) (All-encodes cs parts.1)

pub text_bytes : (text : List ℕ) → IsUtf8 text → All IsByte text
text_bytes text is = subst (All IsByte) is.1.1 (All-encodes is.0 is.1.0)
