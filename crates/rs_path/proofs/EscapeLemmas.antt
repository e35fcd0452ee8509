-- Names as they stand in a target.
use Rattle.std.proofs.Common.{◌≡◌, ℕ, ◌+◌, ◌/◌, ◌%◌, ◌<◌, ◌≤◌, true, false, not, ◌||◌, ◌==◌, nat_lt, List, [], ◌∷◌, ◌++◌, length, Ok, All, arith, refl, sym, ap, ◌∙◌, ⊎_elim, lt-ltb}
use Rattle.std.specs.Char.{digit_value, is_digit}
use Rattle.std.specs.Fmt.{digit_glyph}
use Rattle.std.proofs.lemmas.Bool.{cases_Bool, cond-true, cond-false, cond_both, agree_below, agree_below_at}
use Rattle.std.proofs.lemmas.Bool.Decides.{nat_tests}
use Rattle.std.proofs.lemmas.List.Elements.{All-nil, All-cons, All-head, All-tail}
use Rattle.percent_encoding.specs.AsciiSet.{contains, should_percent_encode}
use Rattle.percent_encoding.specs.Percent.{percent_encode_byte, percent_encode, percent_decode}
use Rattle.percent_encoding.proofs.PercentLemmas.{IsByte, percent_encode-nil, percent_encode_escaped, percent_encode_kept, round_trip}
use Rattle.rs_path.specs.declared.target.TheConstants.{RESERVED}
use Rattle.rs_path.specs.Names.{is_name}
use Rattle.rs_path.specs.Paths.{is_nil}
use Rattle.rs_path.specs.Targets.{is_unreserved, escape_of, escaped}
use Rattle.rs_path.specs.Readings.{name_unless, plain_name, has_whole_escapes, escaped_name, is_slash}
use Rattle.rs_path.proofs.NameLemmas.{name_bytes, name_fault-name}

-- ---- the set of the crate that escapes is the reserved bytes

reserved_set : agree_below (contains RESERVED) (λ byte. not (is_unreserved byte)) 128 ≡ true
reserved_set = refl

beyond_ascii : (byte : ℕ) → 128 ≤ byte → is_unreserved byte ≡ false
beyond_ascii byte high = grind (arith, nat_tests)

should_escape : (byte : ℕ) → should_percent_encode RESERVED byte ≡ not (is_unreserved byte)
unfolding should_percent_encode
should_escape byte =
    ⊎_elim
    (λ low. let within : byte < 128 = grind (arith, nat_tests) in
    ap (λ t. not t || contains RESERVED byte) low
    ∙ agree_below_at (contains RESERVED) (λ b. not (is_unreserved b)) 128 byte reserved_set within)
    (λ high. let beyond : 128 ≤ byte = grind (arith, nat_tests) in
    ap (λ t. not t || contains RESERVED byte) high ∙ sym (ap not (beyond_ascii byte beyond)))
    (cases_Bool (nat_lt byte 128))

escape_same : (byte : ℕ) → byte < 256 → percent_encode_byte byte ≡ escape_of byte
unfolding percent_encode_byte
escape_same byte small =
    let high : byte / 16 % 16 ≡ byte / 16 = omega arith in
    ap (λ h. 37 ∷ digit_glyph true h ∷ digit_glyph true (byte % 16) ∷ []) high

-- the crate escapes what the definition escapes
pub percent_encode-escaped : (bytes : List ℕ) → All IsByte bytes → percent_encode RESERVED bytes ≡ escaped bytes
percent_encode-escaped [] small = percent_encode-nil RESERVED
percent_encode-escaped (byte ∷ bytes) small =
    let rest = percent_encode-escaped bytes (All-tail IsByte byte bytes small) in
    ⊎_elim
    (λ kept. let stays : should_percent_encode RESERVED byte ≡ false = should_escape byte ∙ ap not kept in
    percent_encode_kept RESERVED byte bytes stays ∙ ap (λ t. byte ∷ t) rest ∙ sym (ap (λ t. t ++ escaped bytes) (cond-true _ _ _ kept)))
    (λ reserved. let goes : should_percent_encode RESERVED byte ≡ true = should_escape byte ∙ ap not reserved in
    percent_encode_escaped RESERVED byte bytes goes
    ∙ ap (λ t. t ++ percent_encode RESERVED bytes) (escape_same byte (All-head IsByte byte bytes small))
    ∙ ap (λ t. escape_of byte ++ t) rest
    ∙ sym (ap (λ t. t ++ escaped bytes) (cond-false _ _ _ reserved)))
    (cases_Bool (is_unreserved byte))

-- ---- escaped names are read back

digit_value-digit_glyph : (d : ℕ) → d < 16 → digit_value (digit_glyph true d) ≡ d
digit_value-digit_glyph d small = grind (arith, nat_tests)

-- what is printed as a digit is one
hex_digit : (d : ℕ) → d < 16 → is_digit (digit_glyph true d) 16 ≡ true
hex_digit d small = lt-ltb _ 16 (rw digit_value-digit_glyph small)

digit_is_plain : (d : ℕ) → d < 16 → (digit_glyph true d == 37 ≡ false) × (is_slash (digit_glyph true d) ≡ false)
digit_is_plain d small =
    cond_both (nat_lt d 10) (48 + d) (55 + d) (λ c. ((c == 37) ≡ false) × (is_slash c ≡ false))
    (λ _. (grind (arith, nat_tests), grind (arith, nat_tests))) (λ _. (grind (arith, nat_tests), grind (arith, nat_tests)))

unreserved_is_plain : (byte : ℕ) → is_unreserved byte ≡ true → ((byte == 37) ≡ false) × (is_slash byte ≡ false)
unreserved_is_plain byte kept = (grind (arith, nat_tests), grind (arith, nat_tests))

-- after one escape the rest decides
whole_escape : (byte : ℕ) (rest : List ℕ) → byte < 256 → has_whole_escapes rest ≡ true → has_whole_escapes (escape_of byte ++ rest) ≡ true
whole_escape byte rest small whole =
    let high_digit = hex_digit (byte / 16) (omega arith) in
    let low_digit = hex_digit (byte % 16) (omega arith) in
    let high = digit_is_plain (byte / 16) (omega arith) in
    let low = digit_is_plain (byte % 16) (omega arith) in
    rw (high_digit, low_digit, high.0, low.0, whole) refl

-- two digits stand after each `%` of an escaped text
pub has_whole_escapes-escaped : (bytes : List ℕ) → All IsByte bytes → has_whole_escapes (escaped bytes) ≡ true
has_whole_escapes-escaped [] small = refl
has_whole_escapes-escaped (byte ∷ bytes) small =
    let rest = has_whole_escapes-escaped bytes (All-tail IsByte byte bytes small) in
    cond_both (is_unreserved byte) (byte ∷ []) (escape_of byte) (λ t. has_whole_escapes (t ++ escaped bytes) ≡ true)
    (λ kept. rw ((unreserved_is_plain byte kept).0, rest) refl)
    (λ _. whole_escape byte (escaped bytes) (All-head IsByte byte bytes small) rest)

-- no byte of an escaped text is a slash
pub escaped_without_slash : (bytes : List ℕ) → All IsByte bytes → All (λ byte. is_slash byte ≡ false) (escaped bytes)
escaped_without_slash [] small = All-nil (λ byte. is_slash byte ≡ false)
escaped_without_slash (byte ∷ bytes) small =
    let NoSlash : ℕ → Type 0 = λ byte. is_slash byte ≡ false in
    let within : byte < 256 = All-head IsByte byte bytes small in
    let rest = escaped_without_slash bytes (All-tail IsByte byte bytes small) in
    let none = All-nil NoSlash in
    cond_both (is_unreserved byte) (byte ∷ []) (escape_of byte) (λ t. All NoSlash (t ++ escaped bytes))
    (λ kept. All-cons NoSlash byte (escaped bytes) (unreserved_is_plain byte kept).1 rest)
    (λ _. let low = All-cons NoSlash (digit_glyph true (byte % 16)) (escaped bytes) (digit_is_plain (byte % 16) (omega arith)).1 rest in
    let high = All-cons NoSlash (digit_glyph true (byte / 16)) (digit_glyph true (byte % 16) ∷ escaped bytes) (digit_is_plain (byte / 16) (omega arith)).1 low in
    All-cons NoSlash 37 (digit_glyph true (byte / 16) ∷ digit_glyph true (byte % 16) ∷ escaped bytes) refl high)

-- an escaped text is empty only where the text is
pub is_nil-escaped : (bytes : List ℕ) → 0 < length bytes → is_nil (escaped bytes) ≡ false
is_nil-escaped [] some = absurd (omega arith)
is_nil-escaped (byte ∷ bytes) some =
    cond_both (is_unreserved byte) (byte ∷ []) (escape_of byte) (λ t. is_nil (t ++ escaped bytes) ≡ false) (λ _. refl) (λ _. refl)

pub plain_name-name : (name : List ℕ) → is_name name ≡ true → plain_name name ≡ Ok name
plain_name-name name named = ap (name_unless name) (name_fault-name name named)

-- a name that was escaped is read back
pub escaped_name-escaped : (name : List ℕ) → is_name name ≡ true → escaped_name (escaped name) ≡ Ok name
escaped_name-escaped name named =
    let small = name_bytes name named in
    let back : percent_decode (escaped name) ≡ name = ap percent_decode (sym (percent_encode-escaped name small)) ∙ round_trip RESERVED name refl small in
    cond-true _ _ _ (has_whole_escapes-escaped name small) ∙ ap plain_name back ∙ plain_name-name name named
