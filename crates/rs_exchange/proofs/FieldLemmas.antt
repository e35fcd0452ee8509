-- The fields of replies are read as they are written.
use Rattle.std.proofs.Common.{◌≡◌, ℕ, suc, zero, ◌+◌, ◌-◌, ◌*◌, ◌<◌, ◌≤◌, ◌^◌, Bool, true, false, not, ◌&&◌, ◌||◌, cond, eqb, List, [], ◌∷◌, ◌++◌, length, get_or, map, reverse, nat_lt, nat_le, decimal, codes, Some, None, Ok, arith, refl, sym, ap, ◌∙◌}
use Rattle.std.specs.Prelude.{All, Option}
use Rattle.std.specs.Char.{is_ascii_digit}
use Rattle.std.specs.List.{list_all, list_any, find}
use Rattle.std.specs.Option.{option_map_or}
use Rattle.std.specs.Str.{all_ascii_digits}
use Rattle.std.specs.Str.Parse.{digits_value}
use Rattle.std.proofs.lemmas.Bool.{and_parts, and_from, cond-false, cond-true, lt-ltb, le-leb, ltb-true, leb-true, eq-eqb}
use Rattle.std.proofs.lemmas.Bool.Decides.{nat_tests}
use Rattle.std.proofs.lemmas.Fmt.{length-decimal-le, decimal_nonempty, digits_decimal, digits_value-decimal}
use Rattle.std.proofs.lemmas.List.{get_or-reverse, get_or_push, length-append, reverse-reverse}
use Rattle.std.proofs.lemmas.List.Elements.{All-nil, All-cons, All-append}
use Rattle.std.proofs.lemmas.List.Folds.{find-append, list_all-append, list_all-map, list_any-append}
use Rattle.std.proofs.lemmas.Str.Parse.{numerals_by_value, tells_all_ascii_digits}
use Rattle.httparse.specs.Grammar.{is_ows, is_token, is_token_byte, is_value_byte, skip_ows, trim_ows}
use Rattle.rs_path.specs.Kinds.{is_kind, is_bare, is_printable}
use Rattle.rs_path.specs.Limits.{max_kind}
use Rattle.rs_request.specs.declared.field.Field.{Field}
use Rattle.rs_request.specs.declared.framing.Framing.{Framing}
use Rattle.rs_request.specs.declared.framing.Framing.TheVariants.{Unstated, Length}
use Rattle.rs_request.specs.Framing.{differs_from, has_bad_length, has_two_lengths, is_coding, is_length, is_length_field, same_length, stated}
use Rattle.rs_request.specs.Names.{same_name}
use Rattle.rs_request.specs.Texts.{is_field}
use Rattle.rs_request.specs.Writing.{line_for}
use Rattle.rs_exchange.specs.FixedReplies.{empty_field}
use Rattle.rs_exchange.specs.Replies.{tag_field, type_field, length_field}

-- ---- bytes

-- what passes one test passes another
passes : (p q : ℕ → Bool) → ((b : ℕ) → p b ≡ true → q b ≡ true) → (xs : List ℕ) → list_all p xs ≡ true → list_all q xs ≡ true
passes p q each [] all = refl
passes p q each (x ∷ xs) all =
    let parts = and_parts (p x) (list_all p xs) all in
    and_from _ _ (each x parts.0) (passes p q each xs parts.1)

-- so does a byte at any place
passes_at : (p : ℕ → Bool) (xs : List ℕ) (i : ℕ) → i < length xs → list_all p xs ≡ true → p (get_or xs i 0) ≡ true
passes_at p [] i inside all = absurd (omega arith)
passes_at p (x ∷ xs) zero inside all = (and_parts (p x) (list_all p xs) all).0
passes_at p (x ∷ xs) (suc i) inside all = passes_at p xs i (omega arith) (and_parts (p x) (list_all p xs) all).1

digit_is_value : (b : ℕ) → is_ascii_digit b ≡ true → is_value_byte b ≡ true
digit_is_value b digit = grind (arith, nat_tests)

-- the byte behind a text
last_is : (last : ℕ) (text : List ℕ) → length (last ∷ (text ++ last ∷ [])) ≡ length text + 2
last_is last text = rw length-append (omega arith)

ends_in : (first last : ℕ) (text : List ℕ) → get_or (first ∷ (text ++ last ∷ [])) (length (first ∷ (text ++ last ∷ [])) - 1) 0 ≡ last
ends_in first last text = get_or_push (first ∷ text) last 0 _ (omega (arith, length-append text (last ∷ [])))

or_from_false : (a b : Bool) → a ≡ false → b ≡ false → (a || b) ≡ false
or_from_false true b first second = first
or_from_false false b first second = second

digit_is_bare : (b : ℕ) → is_ascii_digit b ≡ true → is_ows b ≡ false
digit_is_bare b digit = grind (arith, nat_tests)

-- ---- white space around a value

skip_none : (xs : List ℕ) → is_ows (get_or xs 0 0) ≡ false → skip_ows xs ≡ xs
skip_none [] first = refl
skip_none (x ∷ xs) first = cond-false (is_ows x) (skip_ows xs) (x ∷ xs) first

-- a text with no white space at its ends
trimmed : (xs : List ℕ) → 0 < length xs → is_ows (get_or xs 0 0) ≡ false → is_ows (get_or xs (length xs - 1) 0) ≡ false → trim_ows xs ≡ xs
unfolding trim_ows
trimmed xs some first last =
    let place : length xs - 1 - 0 ≡ length xs - 1 = omega arith in
    let end = ap is_ows (get_or-reverse xs 0 0 some ∙ ap (λ i. get_or xs i 0) place) ∙ last in
    ap (λ (l : List ℕ). reverse (skip_ows (reverse l))) (skip_none xs first) ∙ ap (λ (l : List ℕ). reverse l) (skip_none (reverse xs) end) ∙ reverse-reverse xs

-- ---- one field

-- the field is read as it is written, and says nothing of the body
pub record IsPlain (f : Field) : Type 0 where
  pub valid : is_field (line_for f) ≡ true
  pub trimmed : trim_ows f.value ≡ f.value
  pub uncoded : is_coding f ≡ false
  pub unsized : is_length_field f ≡ false

-- the field is read as it is written, and tells this length
pub record IsSized (f : Field) (n : ℕ) : Type 0 where
  pub valid : is_field (line_for f) ≡ true
  pub trimmed : trim_ows f.value ≡ f.value
  pub uncoded : is_coding f ≡ false
  pub sized : is_length_field f ≡ true
  pub length_is : is_length f.value ≡ true
  pub number : digits_value 10 f.value ≡ n

-- the digits of a number
digits_of : (n : ℕ) → n < 2 ^ 64 → list_all is_ascii_digit (decimal n) ≡ true
digits_of n small = digits_decimal (numerals_by_value (λ ds. all_ascii_digits ds ≡ true) tells_all_ascii_digits) n small

decimal_trimmed : (n : ℕ) → n < 2 ^ 64 → trim_ows (decimal n) ≡ decimal n
decimal_trimmed n small =
    let some = decimal_nonempty n small in
    let all = digits_of n small in
    trimmed (decimal n) some (digit_is_bare (get_or (decimal n) 0 0) (passes_at is_ascii_digit (decimal n) 0 some all))
    (digit_is_bare (get_or (decimal n) (length (decimal n) - 1) 0) (passes_at is_ascii_digit (decimal n) (length (decimal n) - 1) (omega (arith, some)) all))

decimal_valued : (n : ℕ) → n < 2 ^ 64 → list_all is_value_byte (decimal n) ≡ true
decimal_valued n small = passes is_ascii_digit is_value_byte digit_is_value (decimal n) (digits_of n small)

-- the length of a body
pub length_is_sized : (n : ℕ) → n < 10 ^ 18 → IsSized (length_field n) n
unfolding is_token_byte same_name is_length
length_is_sized n small =
    let few : n < 2 ^ 64 = omega arith in record {
      valid = decimal_valued n few;
      trimmed = decimal_trimmed n few;
      uncoded = refl;
      sized = refl;
      length_is = and_from _ _ (lt-ltb _ _ (decimal_nonempty n few)) (and_from _ _ (le-leb _ _ (length-decimal-le 18 n (omega arith) small few)) (digits_of n few));
      number = digits_value-decimal (numerals_by_value (λ ds. all_ascii_digits ds ≡ true) tells_all_ascii_digits) n few;
    }

-- no body
pub empty_is_sized : IsSized empty_field 0
unfolding is_token_byte same_name is_length trim_ows
empty_is_sized = record { valid = refl; trimmed = refl; uncoded = refl; sized = refl; length_is = refl; number = refl }

-- an entity tag
pub tag_is_plain : (version : ℕ) → version < 2 ^ 64 → IsPlain (tag_field version)
unfolding is_token_byte same_name
tag_is_plain version small =
    let text = tag_field version in
    let long : length text.value ≡ length (decimal version) + 2 = last_is 34 (decimal version) in record {
      valid = list_all-append is_value_byte (decimal version) (34 ∷ []) ∙ and_from _ _ (decimal_valued version small) refl;
      trimmed = trimmed text.value (omega (arith, long)) refl (ap is_ows (ends_in 34 34 (decimal version)));
      uncoded = refl;
      unsized = refl;
    }

-- a byte of a content type
printable_is_value : (b : ℕ) → (nat_le 0x20 b && nat_le b 0x7E) ≡ true → is_value_byte b ≡ true
printable_is_value b is = grind (arith, nat_tests)

printable_is_bare : (b : ℕ) → (nat_le 0x20 b && nat_le b 0x7E) ≡ true → not (eqb b 32) ≡ true → is_ows b ≡ false
printable_is_bare b is other = grind (arith, nat_tests)

-- a content type has bytes, and few of them
pub record IsKind (kind : List ℕ) : Type 0 where
  pub some : 0 < length kind
  pub few : length kind ≤ max_kind
  pub printable : is_printable kind ≡ true
  pub first : not (eqb (get_or kind 0 0) 32) ≡ true
  pub last : not (eqb (get_or kind (length kind - 1) 0) 32) ≡ true

pub kind_parts : (kind : List ℕ) → is_kind kind ≡ true → IsKind kind
kind_parts kind is =
    let parts = and_parts _ (is_bare kind) is in
    let rest = and_parts _ (is_printable kind) parts.0 in
    let sizes = and_parts (nat_lt 0 (length kind)) (nat_le (length kind) max_kind) rest.0 in
    let ends = and_parts (not (eqb (get_or kind 0 0) 32)) (not (eqb (get_or kind (length kind - 1) 0) 32)) parts.1 in
    record { some = ltb-true _ _ sizes.0; few = leb-true _ _ sizes.1; printable = rest.1; first = ends.0; last = ends.1 }

-- a content type
pub type_is_plain : (kind : List ℕ) → is_kind kind ≡ true → IsPlain (type_field kind)
unfolding is_token_byte same_name
type_is_plain kind is =
    let k = kind_parts kind is in
    let test : ℕ → Bool = λ b. nat_le 0x20 b && nat_le b 0x7E in record {
      valid = passes test is_value_byte printable_is_value kind k.printable;
      trimmed = trimmed kind k.some (printable_is_bare (get_or kind 0 0) (passes_at test kind 0 k.some k.printable) k.first)
          (printable_is_bare (get_or kind (length kind - 1) 0) (passes_at test kind (length kind - 1) (let some = k.some in omega (arith, some)) k.printable) k.last);
      uncoded = refl;
      unsized = refl;
    }

-- ---- fields, one after another

-- each is read as it is written, and none says anything of the body
pub record ArePlain (fields : List Field) : Type 0 where
  pub valid : list_all (λ f. is_field (line_for f)) fields ≡ true
  pub trimmed : All (λ f. trim_ows f.value ≡ f.value) fields
  pub uncoded : list_any is_coding fields ≡ false
  pub unsized : list_any is_length_field fields ≡ false

pub none_plain : ArePlain []
none_plain = record { valid = refl; trimmed = All-nil (λ f. trim_ows f.value ≡ f.value); uncoded = refl; unsized = refl }

pub more_plain : (f : Field) (fields : List Field) → IsPlain f → ArePlain fields → ArePlain (f ∷ fields)
more_plain f fields p all = record {
  valid = and_from _ _ p.valid all.valid;
  trimmed = All-cons (λ f. trim_ows f.value ≡ f.value) f fields p.trimmed all.trimmed;
  uncoded = or_from_false _ _ p.uncoded all.uncoded;
  unsized = or_from_false _ _ p.unsized all.unsized;
}

pub joined_plain : (fs gs : List Field) → ArePlain fs → ArePlain gs → ArePlain (fs ++ gs)
joined_plain fs gs a b = record {
  valid = list_all-append (λ f. is_field (line_for f)) fs gs ∙ and_from _ _ a.valid b.valid;
  trimmed = All-append (λ f. trim_ows f.value ≡ f.value) fs gs a.trimmed b.trimmed;
  uncoded = list_any-append is_coding fs gs ∙ or_from_false _ _ a.uncoded b.uncoded;
  unsized = list_any-append is_length_field fs gs ∙ or_from_false _ _ a.unsized b.unsized;
}

-- ---- how the body is framed

-- the fields are read as they are written, and state this of the body
pub record AreFramed (fields : List Field) (framing : Framing) : Type 0 where
  pub valid : list_all is_field (map line_for fields) ≡ true
  pub trimmed : All (λ f. trim_ows f.value ≡ f.value) fields
  pub uncoded : list_any is_coding fields ≡ false
  pub framed : stated fields ≡ Ok framing

-- what only a length could be, is none of these
without_lengths : (test : Field → Bool) (fields : List Field) → list_any is_length_field fields ≡ false
    → list_any (λ f. is_length_field f && test f) fields ≡ false
without_lengths test [] none = refl
without_lengths test (f ∷ fields) none = by_name (is_length_field f) (test f) none (without_lengths test fields)
  where
    by_name : (named t : Bool) → (named || list_any is_length_field fields) ≡ false
        → (list_any is_length_field fields ≡ false → list_any (λ f. is_length_field f && test f) fields ≡ false)
        → ((named && t) || list_any (λ f. is_length_field f && test f) fields) ≡ false
    by_name true t none later = cc
    by_name false t none later = later none

not_found : (fields : List Field) → list_any is_length_field fields ≡ false → find is_length_field fields ≡ None
not_found [] none = refl
not_found (f ∷ fields) none = by_name (is_length_field f) none (not_found fields)
  where
    by_name : (named : Bool) → (named || list_any is_length_field fields) ≡ false
        → (list_any is_length_field fields ≡ false → find is_length_field fields ≡ None) → cond named (Some f) (find is_length_field fields) ≡ None
    by_name true none later = cc
    by_name false none later = later none

-- fields that say nothing of the body
pub plain_framed : (fields : List Field) → ArePlain fields → AreFramed fields Unstated
unfolding stated has_two_lengths has_bad_length
plain_framed fields p =
    let none = not_found fields p.unsized in
    let bad = without_lengths (λ f. not (is_length f.value)) fields p.unsized in
    record {
      valid = list_all-map is_field line_for fields ∙ p.valid;
      trimmed = p.trimmed;
      uncoded = p.uncoded;
      framed = rw (p.uncoded, none, bad) refl;
    }

-- none of them passes
none_among : (p : Field → Bool) (fs gs : List Field) (f : Field) → list_any p fs ≡ false → p f ≡ false → list_any p gs ≡ false
    → list_any p (fs ++ f ∷ gs) ≡ false
none_among p fs gs f first here last = list_any-append p fs (f ∷ gs) ∙ or_from_false _ _ first (or_from_false _ _ here last)

-- one of them tells a length
pub sized_framed : (fs gs : List Field) (f : Field) (n : ℕ) → ArePlain fs → IsSized f n → ArePlain gs → AreFramed (fs ++ f ∷ gs) (Length n)
unfolding stated has_two_lengths has_bad_length same_length
sized_framed fs gs f n a s b =
    let uncoded = none_among is_coding fs gs f a.uncoded s.uncoded b.uncoded in
    let found : find is_length_field (fs ++ f ∷ gs) ≡ Some f =
    find-append is_length_field fs (f ∷ gs) ∙ rw (not_found fs a.unsized, s.sized) refl in
    let same : same_length f.value f.value ≡ true = rw s.length_is (eq-eqb _ _ refl) in
    let one = none_among (differs_from f) fs gs f (without_lengths (λ g. not (same_length f.value g.value)) fs a.unsized) (rw (s.sized, same) refl)
    (without_lengths (λ g. not (same_length f.value g.value)) gs b.unsized) in
    let good = none_among (λ g. is_length_field g && not (is_length g.value)) fs gs f (without_lengths (λ g. not (is_length g.value)) fs a.unsized)
    (rw (s.sized, s.length_is) refl) (without_lengths (λ g. not (is_length g.value)) gs b.unsized) in
    record {
      valid = list_all-map is_field line_for (fs ++ f ∷ gs)
          ∙ list_all-append (λ f. is_field (line_for f)) fs (f ∷ gs) ∙ and_from _ _ a.valid (and_from _ _ s.valid b.valid);
      trimmed = All-append (λ f. trim_ows f.value ≡ f.value) fs (f ∷ gs) a.trimmed (All-cons (λ f. trim_ows f.value ≡ f.value) f gs s.trimmed b.trimmed);
      uncoded = uncoded;
      framed = rw (uncoded, found, one, good) (ap (λ (k : ℕ). Ok (Length k)) s.number);
    }
