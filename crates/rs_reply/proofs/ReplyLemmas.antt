-- `response_head` is httparse's grammar, for a text that begins with no line end.
use Rattle.std.proofs.Common.{◌≡◌, ℕ, zero, suc, ◌-◌, ◌*◌, ◌≤◌, Bool, true, false, cond, ◌&&◌, List, [], ◌∷◌, ◌++◌, length, take, drop, Option, Some, None, refl, sym, ap, ◌∙◌, subst, arith}
use Rattle.std.specs.Prelude.{bytes_eq, nat_le, ◌==◌, slice_index}
use Rattle.std.specs.List.{list_all, flat_map}
use Rattle.std.specs.Char.{is_ascii_digit}
use Rattle.std.proofs.lemmas.List.{append-nil, append_assoc, length-append}
use Rattle.std.proofs.lemmas.Bool.{and_parts, and_from, leb-true, le-leb, cond-true, eqb-true, eq-eqb}
use Rattle.std.proofs.lemmas.Slice.Eq.{bytes_eq-Decides}
use Rattle.httparse.specs.Grammar.{print_end, print_blank, print_version, print_reason, reason_phrase, is_value_byte, print_field, print_section, ResponseHead, IsResponseHead, print_response, ReadsResponse}
use Rattle.httparse.proofs.GrammarLemmas.{print_response-append}
use Rattle.rs_request.specs.Lines.{past_breaks}
use Rattle.rs_request.specs.Items.{pieces}
use Rattle.rs_request.specs.Texts.{is_field}
use Rattle.rs_reply.specs.ReplyTexts.{reason_in, response_in, response_lines, is_response, response_head}
use Rattle.rs_request.proofs.Cited.{AllPass-from_test, test_from_AllPass, IsField-from_tests, tests_from_IsField, lacks, lacks_by, lacks_append, line_piece, line_alone, section_found, section_room, no_blank, version_lacks}

-- ---- what it gives is a head

valid_by_test : (h : ResponseHead) → is_response h ≡ true → IsResponseHead h
valid_by_test h all =
    let minor = and_parts (nat_le h.minor 1) _ all in
    let parts = and_parts ((length h.digits == 3) && list_all is_ascii_digit h.digits) _ minor.1 in
    let digits = and_parts (length h.digits == 3) (list_all is_ascii_digit h.digits) parts.0 in
    let rest = and_parts (list_all is_value_byte (reason_phrase h.reason)) (list_all is_field h.fields) parts.1 in
    record {
      minor = leb-true h.minor 1 minor.0;
      digits = (eqb-true (length h.digits) 3 digits.0, AllPass-from_test is_ascii_digit h.digits digits.1);
      reason = AllPass-from_test is_value_byte (reason_phrase h.reason) rest.0;
      fields = IsField-from_tests h.fields rest.1;
    }

test_by_valid : (h : ResponseHead) → IsResponseHead h → is_response h ≡ true
test_by_valid h valid =
    and_from _ _ (le-leb h.minor 1 valid.minor)
    (and_from _ _ (and_from _ _ (eq-eqb (length h.digits) 3 valid.digits.0) (test_from_AllPass is_ascii_digit h.digits valid.digits.1))
    (and_from _ _ (test_from_AllPass is_value_byte (reason_phrase h.reason) valid.reason) (tests_from_IsField h.fields valid.fields)))

-- what it gives is a head of the grammar, and the whole text
pub response_reads : (text : List ℕ) (h : ResponseHead) → response_head text ≡ Some h → ReadsResponse text h []
unfolding response_head
response_reads text h is =
    let g = response_lines (pieces 10 text) in
    by_test g (is_response g && bytes_eq (print_response g) text) refl is
  where
    by_test : (g : ResponseHead) (t : Bool) → (is_response g && bytes_eq (print_response g) text) ≡ t → cond t (Some g) None ≡ Some h → ReadsResponse text h []
    by_test g true e is =
        let same : g ≡ h = cc in
        let parts = and_parts (is_response g) (bytes_eq (print_response g) text) e in
        let printed = (bytes_eq-Decides (print_response g) text).0 parts.1 in
        subst (λ (k : ResponseHead). ReadsResponse text k []) same (valid_by_test g parts.0, sym printed ∙ sym (append-nil (print_response g)))
    by_test g false e is = cc

-- ---- a head of the grammar is what it gives

-- the first line
abbrev first_of : ResponseHead → List ℕ
first_of h = print_version h.minor ++ 32 ∷ (h.digits ++ print_reason h.reason)

reason_lacks : (k : ℕ) (reason : Option (List ℕ)) → is_value_byte k ≡ false → lacks k (32 ∷ []) ≡ true → list_all is_value_byte (reason_phrase reason) ≡ true
    → lacks k (print_reason reason) ≡ true
reason_lacks k None value space all = refl
reason_lacks k (Some phrase) value space all = lacks_append k (32 ∷ []) phrase space (lacks_by is_value_byte k phrase value all)

first_lacks : (k : ℕ) (h : ResponseHead) → IsResponseHead h → is_ascii_digit k ≡ false → is_value_byte k ≡ false → lacks k (32 ∷ []) ≡ true
    → lacks k (print_version h.minor) ≡ true → lacks k (first_of h) ≡ true
first_lacks k h valid digit value space version =
    lacks_append k (print_version h.minor) (32 ∷ (h.digits ++ print_reason h.reason)) version
    (lacks_append k (32 ∷ []) (h.digits ++ print_reason h.reason) space
    (lacks_append k h.digits (print_reason h.reason) (lacks_by is_ascii_digit k h.digits digit (test_from_AllPass is_ascii_digit h.digits valid.digits.1))
    (reason_lacks k h.reason value space (test_from_AllPass is_value_byte (reason_phrase h.reason) valid.reason))))

-- the whole text, line by line
head_text : (text : List ℕ) (h : ResponseHead) → h.blank ≡ [] → ReadsResponse text h [] → text ≡ first_of h ++ (print_end h.line_end ++ (print_section h.fields h.last ++ []))
head_text text h none reads =
    let rest = print_end h.line_end ++ (print_section h.fields h.last ++ []) in
    reads.1 ∙ print_response-append h []
    ∙ ap (λ b. print_blank b ++ (print_version h.minor ++ 32 ∷ (h.digits ++ (print_reason h.reason ++ rest)))) none
    ∙ regroup (print_version h.minor) h.digits (print_reason h.reason) rest
  where
    regroup : (a b c r : List ℕ) → a ++ 32 ∷ (b ++ (c ++ r)) ≡ (a ++ 32 ∷ (b ++ c)) ++ r
    regroup a b c r = ap (λ xs. a ++ xs) (ap (λ xs. 32 ∷ xs) (sym (append_assoc b c r))) ∙ sym (append_assoc a (32 ∷ (b ++ c)) r)

take_front : (n : ℕ) (xs ys : List ℕ) → length xs ≡ n → take n (xs ++ ys) ≡ xs
take_front n [] ys e = ap (λ k. take k ys) (sym e)
take_front zero (x ∷ xs) ys e = absurd (omega (arith, e))
take_front (suc n) (x ∷ xs) ys e = ap (λ zs. x ∷ zs) (take_front n xs ys (omega (arith, e)))

drop_front : (n : ℕ) (xs ys : List ℕ) → length xs ≡ n → drop n (xs ++ ys) ≡ ys
drop_front n [] ys e = ap (λ k. drop k ys) (sym e)
drop_front zero (x ∷ xs) ys e = absurd (omega (arith, e))
drop_front (suc n) (x ∷ xs) ys e = drop_front n xs ys (omega (arith, e))

reason_found : (reason : Option (List ℕ)) → reason_in (print_reason reason) ≡ reason
reason_found None = refl
reason_found (Some phrase) = refl

parts_found : (h : ResponseHead) → h.blank ≡ [] → IsResponseHead h → response_in (first_of h, h.line_end) (h.fields, h.last) ≡ h
parts_found h none valid =
    let minor : slice_index (first_of h) 7 - 48 ≡ h.minor = omega arith in
    let digits = take_front 3 h.digits (print_reason h.reason) valid.digits.0 in
    let reason = ap reason_in (drop_front 3 h.digits (print_reason h.reason) valid.digits.0) ∙ reason_found h.reason in
    let blank = sym none in
    λ i. record h { blank = blank i; minor = minor i; digits = digits i; reason = reason i }

guess_found : (text : List ℕ) (h : ResponseHead) → h.blank ≡ [] → ReadsResponse text h [] → response_lines (pieces 10 text) ≡ h
guess_found text h none reads =
    let valid = reads.0 in
    let small = valid.minor in
    let first = first_of h in
    let rest = print_section h.fields h.last ++ [] in
    let lines = ap (pieces 10) (head_text text h none reads)
    ∙ line_piece first h.line_end rest (first_lacks 10 h valid refl refl refl (version_lacks 10 h.minor refl (λ e. absurd (omega arith)))) in
    let alone = line_alone first h.line_end (first_lacks 13 h valid refl refl refl (version_lacks 13 h.minor refl (λ e. absurd (omega arith)))) in
    ap response_lines lines ∙ (λ i. response_in (alone i) (section_found h.fields h.last valid.fields i)) ∙ parts_found h none valid

-- a head of the grammar that is the whole text is what it gives
pub response_found : (text : List ℕ) (h : ResponseHead) → past_breaks text ≡ text → ReadsResponse text h [] → response_head text ≡ Some h
unfolding response_head
response_found text h clean reads =
    let none = no_blank h.blank text _ clean (reads.1 ∙ print_response-append h []) in
    let guess = guess_found text h none reads in
    let printed = (bytes_eq-Decides (print_response h) text).1 (sym (reads.1 ∙ append-nil (print_response h))) in
    ap (λ g. cond (is_response g && bytes_eq (print_response g) text) (Some g) None) guess
    ∙ cond-true _ (Some h) None (and_from _ _ (test_by_valid h reads.0) printed)

-- a field takes at least three bytes
pub response_room : (text : List ℕ) (h : ResponseHead) → ReadsResponse text h [] → 3 * length h.fields ≤ length text
response_room text h reads =
    let lines = ap length (reads.1 ∙ print_response-append h []) in
    let room = section_room h.fields reads.0.fields in
    let S = print_section h.fields h.last ++ [] in
    let E = print_end h.line_end ++ S in
    let R = print_reason h.reason ++ E in
    let D = h.digits ++ R in
    omega (
      arith,
      length-append (print_blank h.blank) (print_version h.minor ++ 32 ∷ D),
      length-append (print_version h.minor) (32 ∷ D),
      length-append h.digits R,
      length-append (print_reason h.reason) E,
      length-append (print_end h.line_end) S,
      length-append (print_section h.fields h.last) [],
      length-append (flat_map print_field h.fields) (print_end h.last),
    )

-- where no head of the grammar is the whole text, it gives none
pub response_none : (text : List ℕ) → ((h : ResponseHead) → ReadsResponse text h [] → ⊥) → response_head text ≡ None
response_none text never = by_cases (response_head text) refl
  where
    by_cases : (o : Option ResponseHead) → response_head text ≡ o → o ≡ None
    by_cases None e = refl
    by_cases (Some h) e = absurd (never h (response_reads text h e))

pub response_length : (text : List ℕ) (h : ResponseHead) → ReadsResponse text h [] → length (print_response h) ≡ length text
response_length text h reads = sym (ap length (reads.1 ∙ append-nil (print_response h)))
