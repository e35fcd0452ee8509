-- What a head's judgement is, by its parts.
use Rattle.std.proofs.Common.{◌≡◌, ℕ, zero, suc, ◌<◌, ◌≤◌, Bool, true, false, cond, List, [], ◌∷◌, ◌++◌, map, take, length, Option, Some, None, Result, Ok, Err, refl, sym, ap, ◌∙◌, subst, arith}
use Rattle.std.specs.Prelude.{nat_lt, All}
use Rattle.std.specs.Option.{option_map_or}
use Rattle.std.specs.List.{list_all}
use Rattle.std.proofs.lemmas.List.{length-map, length-take, length-append, take-append-le}
use Rattle.std.proofs.lemmas.Bool.{cond-true, cond-false, lt-ltb, le-ltb, ltb-false, and_parts}
use Rattle.httparse.specs.Grammar.{RequestHead, field_value, Field as Line}
use Rattle.httparse.specs.declared.spans.HeaderSpan.{HeaderSpan}
use Rattle.httparse.specs.declared.spans.RequestSpans.{RequestSpans}
use Rattle.httparse.specs.Spans.{span_bytes, header_bytes, IsHeaderWithin, name_and_value}
use Rattle.rs_request.specs.declared.field.Field.{Field}
use Rattle.rs_request.specs.declared.fault.WireWhy.{WireWhy}
use Rattle.rs_request.specs.declared.fault.WireWhy.TheVariants.{BadHead, HeadLong}
use Rattle.rs_request.specs.declared.framing.Framing.{Framing}
use Rattle.rs_request.specs.declared.head.Begun.{Begun}
use Rattle.rs_request.specs.Limits.{max_fields, max_head}
use Rattle.rs_request.specs.declared.search.Spot.TheVariants.{Before}
use Rattle.rs_request.specs.Lines.{is_break, past_breaks, first_empty_line}
use Rattle.rs_request.specs.Framing.{head_framing}
use Rattle.rs_request.specs.RequestTexts.{request_head}
use Rattle.rs_request.proofs.LinesLemmas.{empty_line_is_found, window_more, length-window}
use Rattle.rs_request.specs.RequestHeads.{fields_of, pair_fields, begun_by, judged_head, judged_request, IsRequestIn, with_length, long_head, head_ending, head_at}

pub judged_none : (place : ℕ) (text : List ℕ) → request_head text ≡ None → judged_request place text ≡ Err BadHead
unfolding judged_request
judged_none place text none = ap (λ o. option_map_or (judged_head place) o (Err BadHead)) none

pub judged_some : (place : ℕ) (text : List ℕ) (h : RequestHead) → request_head text ≡ Some h → judged_request place text ≡ judged_head place h
unfolding judged_request
judged_some place text h is = ap (λ o. option_map_or (judged_head place) o (Err BadHead)) is

pub pair_fields_of : (lines : List Line) → pair_fields (map name_and_value lines) ≡ fields_of lines
pair_fields_of [] = refl
pair_fields_of (line ∷ lines) = ap (λ rest. record { name = line.name; value = field_value line } ∷ rest) (pair_fields_of lines)

module _ (text : List ℕ) (room : List HeaderSpan) (spans : RequestSpans) (parts : IsRequestIn text room spans) where
  count : length parts.head.fields ≡ spans.headers
  count =
      let same = ap length parts.at.fields in
      let fits = parts.within.section.count_fits in
      omega (arith, same, fits, length-map (take spans.headers room) (header_bytes text), length-map parts.head.fields name_and_value, length-take spans.headers room)

  pub judged_many : (place : ℕ) → max_fields < spans.headers → judged_request place text ≡ Err HeadLong
  unfolding judged_head
  judged_many place many =
      judged_some place text parts.head parts.is ∙ cond-true _ _ _ (lt-ltb max_fields (length parts.head.fields) (omega (arith, count)))

  pub judged_parts : (place : ℕ) (fields : List Field) (r : Result Framing WireWhy) → spans.headers ≤ max_fields
      → fields ≡ pair_fields (map (header_bytes text) (take spans.headers room))
      → r ≡ head_framing spans.version (length (span_bytes text spans.path)) fields
      → judged_request place text ≡ begun_by place (span_bytes text spans.method) (span_bytes text spans.path) spans.version fields r
  unfolding judged_head
  judged_parts place fields r few f e =
      let h = parts.head in
      let method = sym parts.at.method in
      let target = sym parts.at.path in
      let minor = sym parts.at.version in
      let all : fields_of h.fields ≡ fields = sym (f ∙ ap pair_fields parts.at.fields ∙ pair_fields_of h.fields) in
      judged_some place text h parts.is
      ∙ cond-false _ _ _ (le-ltb max_fields (length h.fields) (omega (arith, count)))
      ∙ (λ i. begun_by place (method i) (target i) (minor i) (all i) (head_framing (minor i) (length (target i)) (all i)))
      ∙ ap (begun_by place (span_bytes text spans.method) (span_bytes text spans.path) spans.version fields) (sym e)

  pub spans_within : All (IsHeaderWithin (length text)) (take spans.headers room)
  spans_within = subst (λ (n : ℕ). All (IsHeaderWithin n) (take spans.headers room)) parts.whole parts.within.section.headers_fit

-- ---- the end of a head

pub head_more : (place : ℕ) (bytes : List ℕ) → first_empty_line Before (take max_head bytes) ≡ None → length bytes < max_head
    → head_at place bytes ≡ None
unfolding head_at
head_more place bytes none short =
    ap (head_ending place bytes) none ∙ cond-true _ None (Some (Err (long_head (take max_head bytes)))) (lt-ltb _ _ short)

pub head_long : (place : ℕ) (bytes : List ℕ) → first_empty_line Before (take max_head bytes) ≡ None → max_head ≤ length bytes
    → head_at place bytes ≡ Some (Err (long_head (take max_head bytes)))
unfolding head_at
head_long place bytes none long =
    ap (head_ending place bytes) none ∙ cond-false _ None (Some (Err (long_head (take max_head bytes)))) (le-ltb _ _ long)

pub head_text : (place : ℕ) (bytes : List ℕ) (n : ℕ) → first_empty_line Before (take max_head bytes) ≡ Some n
    → head_at place bytes ≡ Some (with_length n (judged_request place (past_breaks (take n bytes))))
unfolding head_at
head_text place bytes n found = ap (head_ending place bytes) found

pub past_breaks_twice : (bytes : List ℕ) → past_breaks (past_breaks bytes) ≡ past_breaks bytes
past_breaks_twice [] = refl
past_breaks_twice (b ∷ bytes) = by_break (is_break b) refl (past_breaks_twice bytes)
  where
    by_break : (t : Bool) → is_break b ≡ t → past_breaks (past_breaks bytes) ≡ past_breaks bytes
        → past_breaks (cond t (past_breaks bytes) (b ∷ bytes)) ≡ cond t (past_breaks bytes) (b ∷ bytes)
    by_break true e again = again
    by_break false e again = cond-false (is_break b) (past_breaks bytes) (b ∷ bytes) e

-- more bytes change no head
pub head_stays : (place : ℕ) (bytes after : List ℕ) (r : Result (Begun × ℕ) WireWhy) → head_at place bytes ≡ Some r → head_at place (bytes ++ after) ≡ Some r
unfolding head_at
head_stays place bytes after r e = by_line (first_empty_line Before (take max_head bytes)) refl e
  where
    by_test : (t : Bool) → nat_lt (length bytes) max_head ≡ t → first_empty_line Before (take max_head bytes) ≡ None
        → cond t None (Some (Err (long_head (take max_head bytes)))) ≡ Some r → head_ending place (bytes ++ after) (first_empty_line Before (take max_head (bytes ++ after))) ≡ Some r
    by_test true f none e = cc
    by_test false f none e =
        let long : max_head ≤ length bytes = ltb-false _ _ f in
        let same = take-append-le max_head bytes after long in
        ap (head_ending place (bytes ++ after)) (ap (first_empty_line Before) same ∙ none)
        ∙ cond-false _ None (Some (Err (long_head (take max_head (bytes ++ after))))) (le-ltb _ _ (omega (arith, length-append bytes after)))
        ∙ ap (λ xs. Some (Err (long_head xs))) same ∙ e

    by_line : (o : Option ℕ) → first_empty_line Before (take max_head bytes) ≡ o → head_ending place bytes o ≡ Some r
        → head_ending place (bytes ++ after) (first_empty_line Before (take max_head (bytes ++ after))) ≡ Some r
    by_line None found e = by_test (nat_lt (length bytes) max_head) refl found e
    by_line (Some n) found e =
        let larger = window_more max_head bytes after in
        let line = empty_line_is_found Before (take max_head bytes) n found in
        let within = line.within in
        ap (head_ending place (bytes ++ after)) (ap (first_empty_line Before) larger.1 ∙ line.stays larger.0)
        ∙ ap (λ xs. Some (with_length n (judged_request place (past_breaks xs)))) (take-append-le n bytes after (omega (arith, length-window max_head bytes))) ∙ e

all_breaks : (n : ℕ) (xs : List ℕ) → list_all is_break xs ≡ true → past_breaks (take n xs) ≡ []
all_breaks zero xs all = refl
all_breaks (suc n) [] all = refl
all_breaks (suc n) (x ∷ xs) all =
    let parts = and_parts (is_break x) (list_all is_break xs) all in
    cond-true (is_break x) (past_breaks (take n xs)) (x ∷ take n xs) parts.0 ∙ all_breaks n xs parts.1

no_text : (place : ℕ) → judged_request place [] ≡ Err BadHead
unfolding request_head
no_text place = judged_none place [] refl

abbrev HeadFound : Type 0
HeadFound = Option (Result (Begun × ℕ) WireWhy)

abbrev a_head : Begun → ℕ → HeadFound
a_head b n = Some (Ok (b, n))

-- a head has a byte that is no line end
pub head_has_text : (place : ℕ) (bytes : List ℕ) (b : Begun) (n : ℕ) → head_at place bytes ≡ Some (Ok (b, n)) → list_all is_break bytes ≡ false
unfolding head_at
head_has_text place bytes b n e = by_all (list_all is_break bytes) refl
  where
    by_test : (t : Bool) → cond t None (Some (Err (long_head (take max_head bytes)))) ≡ a_head b n → ⊥
    by_test true e = cc
    by_test false e = cc

    by_line : list_all is_break bytes ≡ true → (o : Option ℕ) → head_ending place bytes o ≡ a_head b n → ⊥
    by_line all None e = by_test (nat_lt (length bytes) max_head) e
    by_line all (Some m) e =
        let refused : HeadFound = Some (Err BadHead) in
        let none : head_ending place bytes (Some m) ≡ refused =
        ap (λ r. Some (with_length m r)) (ap (judged_request place) (all_breaks m bytes all) ∙ no_text place) in
        cc

    by_all : (t : Bool) → list_all is_break bytes ≡ t → t ≡ false
    by_all true all = absurd (by_line all (first_empty_line Before (take max_head bytes)) e)
    by_all false all = refl
