-- What the texts of a path are made of.
use Rattle.std.proofs.Common.{◌≡◌, ℕ, ◌+◌, ◌*◌, ◌/◌, ◌%◌, ◌<◌, ◌≤◌, Bool, true, false, ◌||◌, ◌==◌, List, [], ◌∷◌, ◌++◌, length, map, All, IsUtf8, arith, refl, sym, ap, ◌∙◌, subst, length-append}
use Rattle.std.specs.List.{list_all}
use Rattle.std.specs.Str.{is_utf8}
use Rattle.std.specs.Fmt.{digit_glyph}
use Rattle.std.proofs.lemmas.Bool.{and_parts, and_from, cond_both, agree_below_at}
use Rattle.std.proofs.lemmas.Bool.Decides.{nat_tests}
use Rattle.std.proofs.lemmas.List.Elements.{All-head, All-tail}
use Rattle.std.proofs.lemmas.List.Folds.{list_all-append}
use Rattle.std.proofs.lemmas.Str.{IsUtf8-append, IsUtf8-nil, IsUtf8-encode, IsUtf8-from_is_utf8, is_utf8-from_IsUtf8, encode_ascii}
use Rattle.percent_encoding.proofs.PercentLemmas.{IsByte}
use Rattle.rs_path.specs.Names.{is_name}
use Rattle.rs_path.specs.Paths.{Path, is_path, text_of, plain_text}
use Rattle.rs_path.specs.Targets.{is_unreserved, escape_of, escaped, is_target_byte, target_text}
use Rattle.rs_path.proofs.NameLemmas.{HasName-from, name_bytes}
use Rattle.rs_path.proofs.RoundTrips.{text_of-cons, HasPath-from}

-- ---- length

length-text_of : (names : List (List ℕ)) (folder : Bool) → list_all is_name names ≡ true → length (text_of names folder) ≤ 256 * length names + 1
length-text_of [] true all = omega arith
length-text_of [] false all = omega arith
length-text_of (name ∷ names) folder all =
    let parts = and_parts (is_name name) (list_all is_name names) all in
    let short = (HasName-from name parts.0).short in
    let within : length name ≤ 255 = grind (arith, nat_tests) in
    let rest = length-text_of names folder parts.1 in
    let whole = ap length (text_of-cons name names folder) in
    omega (arith, whole, rest, within, length-append name (text_of names folder))

pub length-plain_text : (p : Path) → is_path p ≡ true → length (plain_text p) ≤ 8193
length-plain_text p is =
    let has = HasPath-from p is in
    let text = length-text_of p.names p.folder has.named in
    omega (arith, text, has.few)

-- ---- UTF-8

slash_text : IsUtf8 (47 ∷ [])
slash_text = subst IsUtf8 (encode_ascii 47 (omega arith)) (IsUtf8-encode 47 refl)

utf8_text_of : (names : List (List ℕ)) (folder : Bool) → list_all is_name names ≡ true → IsUtf8 (text_of names folder)
utf8_text_of [] true all = slash_text
utf8_text_of [] false all = IsUtf8-nil
utf8_text_of (name ∷ names) folder all =
    let parts = and_parts (is_name name) (list_all is_name names) all in
    let own = IsUtf8-from_is_utf8 name (HasName-from name parts.0).text in
    let rest = IsUtf8-append name (text_of names folder) own (utf8_text_of names folder parts.1) in
    subst IsUtf8 (sym (text_of-cons name names folder)) (IsUtf8-append (47 ∷ []) (name ++ text_of names folder) slash_text rest)

pub is_utf8-plain_text : (p : Path) → is_path p ≡ true → is_utf8 (plain_text p) ≡ true
is_utf8-plain_text p is = is_utf8-from_IsUtf8 (plain_text p) (utf8_text_of p.names p.folder (HasPath-from p is).named)

-- ---- the bytes of a target

glyph_in_target : (d : ℕ) → d < 16 → is_target_byte (digit_glyph true d) ≡ true
glyph_in_target d small = agree_below_at (λ n. is_target_byte (digit_glyph true n)) (λ n. true) 16 d refl small

unreserved_in_target : (byte : ℕ) → is_unreserved byte ≡ true → is_target_byte byte ≡ true
unreserved_in_target byte kept = ap (λ b. b || byte == 37 || byte == 47) kept

escaped_in_target : (bytes : List ℕ) → All IsByte bytes → list_all is_target_byte (escaped bytes) ≡ true
escaped_in_target [] small = refl
escaped_in_target (byte ∷ bytes) small =
    let within : byte < 256 = All-head IsByte byte bytes small in
    let rest = escaped_in_target bytes (All-tail IsByte byte bytes small) in
    let high = glyph_in_target (byte / 16) (omega arith) in
    let low = glyph_in_target (byte % 16) (omega arith) in
    cond_both (is_unreserved byte) (byte ∷ []) (escape_of byte) (λ t. list_all is_target_byte (t ++ escaped bytes) ≡ true)
    (λ kept. and_from _ _ (unreserved_in_target byte kept) rest)
    (λ _. and_from _ _ refl (and_from _ _ high (and_from _ _ low rest)))

text_in_target : (names : List (List ℕ)) (folder : Bool) → list_all is_name names ≡ true → list_all is_target_byte (text_of (map escaped names) folder) ≡ true
text_in_target [] true all = refl
text_in_target [] false all = refl
text_in_target (name ∷ names) folder all =
    let parts = and_parts (is_name name) (list_all is_name names) all in
    let own = escaped_in_target name (name_bytes name parts.0) in
    let rest = text_in_target names folder parts.1 in
    ap (list_all is_target_byte) (text_of-cons (escaped name) (map escaped names) folder)
    ∙ and_from _ _ refl (list_all-append is_target_byte (escaped name) (text_of (map escaped names) folder) ∙ and_from _ _ own rest)

pub target_bytes : (p : Path) → is_path p ≡ true → list_all is_target_byte (target_text p) ≡ true
target_bytes p is = text_in_target p.names p.folder (HasPath-from p is).named
