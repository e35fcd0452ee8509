-- When bytes are a name, and what a name keeps.
use Rattle.std.proofs.Common.{◌≡◌, ℕ, ◌+◌, ◌/◌, ◌%◌, ◌<◌, ◌≤◌, Bool, true, false, not, ◌&&◌, ◌==◌, nat_lt, nat_le, if◌then◌else◌, List, [], ◌∷◌, length, Option, Some, None, All, IsUtf8, arith, refl, subst, ⊎_elim, lt-ltb}
use Rattle.std.specs.List.{list_any}
use Rattle.std.specs.Str.{is_utf8}
use Rattle.std.proofs.lemmas.Bool.{and_from, and_parts, or_parts, or_from, cond_both}
use Rattle.std.proofs.lemmas.Bool.Decides.{nat_tests}
use Rattle.std.proofs.lemmas.List.Elements.{All-nil, All-cons, All-append}
use Rattle.std.proofs.lemmas.Str.{IsUtf8-from_is_utf8}
use Rattle.percent_encoding.proofs.PercentLemmas.{IsByte}
use lib.Utf8.{scalar, scalars, encode, encodes, scalar_cases}
use Rattle.rs_path.specs.declared.path_fault.PathWhy.{PathWhy}
use Rattle.rs_path.specs.declared.path_fault.PathWhy.TheVariants.{Slash, Nul, NotUtf8, Dots, NameLong}
use Rattle.rs_path.specs.Names.{has_no_separator, is_dots, is_name}
use Rattle.rs_path.specs.Readings.{name_fault, is_slash}

-- the first test of a chain fails, and so the others decide
passes_on : (test : Bool) (why : PathWhy) (others : Option PathWhy)
    → (if test then Some why else others) ≡ None → (test ≡ false) × (others ≡ None)
passes_on true why others none = absurd (cc)
passes_on false why others none = (refl, none)

-- bytes without a slash and without a zero
has_no_separator-from : (name : List ℕ) → list_any (λ byte. byte == 47) name ≡ false
    → list_any (λ byte. byte == 0) name ≡ false → has_no_separator name ≡ true
has_no_separator-from [] no_slash no_zero = refl
has_no_separator-from (byte ∷ name) no_slash no_zero =
    let slash = or_parts (byte == 47) (list_any (λ byte. byte == 47) name) no_slash in
    let zero = or_parts (byte == 0) (list_any (λ byte. byte == 0) name) no_zero in
    let first : (not (byte == 47) && not (byte == 0)) ≡ true = rw (slash.0, zero.0) refl in
    and_from _ _ first (has_no_separator-from name slash.1 zero.1)

-- what no fault says
pub record IsFaultless (name : List ℕ) : Type 0 where
  pub no_slash : list_any (λ byte. byte == 47) name ≡ false
  pub no_zero : list_any (λ byte. byte == 0) name ≡ false
  pub text : not (is_utf8 name) ≡ false
  pub no_dots : is_dots name ≡ false
  pub short : nat_lt 255 (length name) ≡ false

pub IsFaultless-from : (name : List ℕ) → name_fault name ≡ None → IsFaultless name
IsFaultless-from name none =
    let slash = passes_on (list_any (λ byte. byte == 47) name) Slash _ none in
    let zero = passes_on (list_any (λ byte. byte == 0) name) Nul _ slash.1 in
    let text = passes_on (not (is_utf8 name)) NotUtf8 _ zero.1 in
    let dots = passes_on (is_dots name) Dots _ text.1 in
    let long = passes_on (nat_lt 255 (length name)) NameLong _ dots.1 in
    record { no_slash = slash.0; no_zero = zero.0; text = text.0; no_dots = dots.0; short = long.0 }

-- bytes without a fault are at most 255
pub length-from_fault : (name : List ℕ) → name_fault name ≡ None → length name ≤ 255
length-from_fault name none = let long = (IsFaultless-from name none).short in grind (arith, nat_tests)

-- bytes without a fault, of which there are some, are a name
pub is_name-from_fault : (name : List ℕ) → name_fault name ≡ None → 0 < length name → is_name name ≡ true
is_name-from_fault name none some =
    let faultless = IsFaultless-from name none in
    let plain = has_no_separator-from name faultless.no_slash faultless.no_zero in
    let within : nat_le (length name) 255 ≡ true = grind (arith, nat_tests, faultless.short) in
    let is_text : is_utf8 name ≡ true = grind (arith, nat_tests, faultless.text) in
    let named : not (is_dots name) ≡ true = grind (arith, nat_tests, faultless.no_dots) in
    and_from _ _ (and_from _ _ (and_from _ _ (and_from _ _ (lt-ltb 0 (length name) some) within) plain) named) is_text

-- what a name is, test by test
pub record HasName (name : List ℕ) : Type 0 where
  pub some : nat_lt 0 (length name) ≡ true
  pub short : nat_le (length name) 255 ≡ true
  pub plain : has_no_separator name ≡ true
  pub no_dots : not (is_dots name) ≡ true
  pub text : is_utf8 name ≡ true

pub HasName-from : (name : List ℕ) → is_name name ≡ true → HasName name
HasName-from name named =
    let a = and_parts _ (is_utf8 name) named in
    let b = and_parts _ (not (is_dots name)) a.0 in
    let c = and_parts _ (has_no_separator name) b.0 in
    let d = and_parts _ (nat_le (length name) 255) c.0 in
    record { some = d.0; short = d.1; plain = c.1; no_dots = b.1; text = a.1 }

-- no byte of these is a slash, and none is a zero
no_separator : (name : List ℕ) → has_no_separator name ≡ true
    → (list_any (λ byte. byte == 47) name ≡ false) × (list_any (λ byte. byte == 0) name ≡ false)
no_separator [] plain = (refl, refl)
no_separator (byte ∷ name) plain =
    let parts = and_parts (not (byte == 47) && not (byte == 0)) (has_no_separator name) plain in
    let first = and_parts (not (byte == 47)) (not (byte == 0)) parts.0 in
    let rest = no_separator name parts.1 in
    let slash : (byte == 47) ≡ false = grind (arith, nat_tests, first.0) in
    let zero : (byte == 0) ≡ false = grind (arith, nat_tests, first.1) in
    (or_from _ _ slash rest.0, or_from _ _ zero rest.1)

-- a name has no fault
pub name_fault-name : (name : List ℕ) → is_name name ≡ true → name_fault name ≡ None
name_fault-name name named =
    let has = HasName-from name named in
    let apart = no_separator name has.plain in
    let text : not (is_utf8 name) ≡ false = grind (arith, nat_tests, has.text) in
    let dots : is_dots name ≡ false = grind (arith, nat_tests, has.no_dots) in
    let long : nat_lt 255 (length name) ≡ false = grind (arith, nat_tests, has.short) in
    rw (apart.0, apart.1, text, dots, long) refl

no_slash : (name : List ℕ) → has_no_separator name ≡ true → All (λ byte. is_slash byte ≡ false) name
no_slash [] plain = All-nil (λ byte. is_slash byte ≡ false)
no_slash (byte ∷ name) plain =
    let parts = and_parts (not (byte == 47) && not (byte == 0)) (has_no_separator name) plain in
    let first = and_parts (not (byte == 47)) (not (byte == 0)) parts.0 in
    let slash : is_slash byte ≡ false = grind (arith, nat_tests, first.0) in
    All-cons (λ byte. is_slash byte ≡ false) byte name slash (no_slash name parts.1)

-- no byte of a name is a slash
pub name_without_slash : (name : List ℕ) → is_name name ≡ true → All (λ byte. is_slash byte ≡ false) name
name_without_slash name named = no_slash name (HasName-from name named).plain

-- ---- the bytes of a text

byte_list : (a : ℕ) (rest : List ℕ) → a < 256 → All IsByte rest → All IsByte (a ∷ rest)
byte_list a rest small others = All-cons IsByte a rest small others

scalar_below : (c : ℕ) → scalar c ≡ true → c < 1114112
scalar_below c is_scalar = ⊎_elim (λ low. omega arith) (λ high. high.1) (scalar_cases c is_scalar)

All-encode : (c : ℕ) → scalar c ≡ true → All IsByte (encode c)
unfolding encode
All-encode c is_scalar =
    let below = scalar_below c is_scalar in
    let none = All-nil IsByte in
    let last = byte_list (128 + c % 64) [] (omega arith) none in
    let third = byte_list (128 + c / 64 % 64) ((128 + c % 64) ∷ []) (omega arith) last in
    let second = byte_list (128 + c / 4096 % 64) ((128 + c / 64 % 64) ∷ (128 + c % 64) ∷ []) (omega arith) third in
    cond_both (nat_lt c 128) _ _ (All IsByte) (λ one. byte_list c [] (grind (arith, nat_tests)) none)
    (λ _. cond_both (nat_lt c 2048) _ _ (All IsByte)
    (λ two. let small : c < 2048 = grind (arith, nat_tests) in byte_list (192 + c / 64) ((128 + c % 64) ∷ []) (omega arith) last)
    (λ _. cond_both (nat_lt c 65536) _ _ (All IsByte)
    (λ three. let small : c < 65536 = grind (arith, nat_tests) in byte_list (224 + c / 4096) ((128 + c / 64 % 64) ∷ (128 + c % 64) ∷ []) (omega arith) third)
    (λ _. byte_list (240 + c / 262144) ((128 + c / 4096 % 64) ∷ (128 + c / 64 % 64) ∷ (128 + c % 64) ∷ []) (omega arith) second)))

All-encodes : (cs : List ℕ) → scalars cs ≡ true → All IsByte (encodes cs)
All-encodes [] all = All-nil IsByte
All-encodes (c ∷ cs) all =
    let parts = and_parts (scalar c) (scalars cs) all in
    All-append IsByte (encode c) (encodes cs) (All-encode c parts.0) (All-encodes cs parts.1)

-- a name is UTF-8
pub name_text : (name : List ℕ) → is_name name ≡ true → IsUtf8 name
name_text name named = IsUtf8-from_is_utf8 name (HasName-from name named).text

-- the bytes of a name fit a byte
pub name_bytes : (name : List ℕ) → is_name name ≡ true → All IsByte name
name_bytes name named =
    let text = IsUtf8-from_is_utf8 name (HasName-from name named).text in
    subst (All IsByte) text.1.1 (All-encodes text.0 text.1.0)
