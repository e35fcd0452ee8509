-- `request_head` is httparse's grammar, for a text that begins with no line end.
use Rattle.std.proofs.Common.{◌≡◌, ℕ, suc, ◌+◌, ◌-◌, ◌*◌, ◌≤◌, Bool, true, false, cond, ◌&&◌, List, [], ◌∷◌, ◌++◌, length, Option, Some, None, refl, sym, ap, ◌∙◌, subst, arith}
use Rattle.std.specs.Prelude.{bytes_eq, codes, nat_lt, nat_le, slice_index}
use Rattle.std.specs.List.{list_all, flat_map}
use Rattle.std.specs.Str.{is_utf8}
use Rattle.std.proofs.lemmas.List.{append-nil, append_assoc, length-append}
use Rattle.std.proofs.lemmas.Bool.{and_parts, and_from, ltb-true, lt-ltb, leb-true, le-leb, cond-true, not_from_false, ne_eqb}
use Rattle.std.proofs.lemmas.Slice.Eq.{bytes_eq-Decides}
use Rattle.std.proofs.lemmas.Str.{IsUtf8-from_is_utf8, is_utf8-from_IsUtf8}
use Rattle.httparse.specs.Grammar.{LineEnd, crlf, lf, print_end, print_blank, print_version, is_token, is_uri_byte, is_token_byte, print_field, print_section, RequestHead, IsRequestHead, print_request, ReadsRequest}
use Rattle.httparse.proofs.GrammarLemmas.{print_request-append, cons-append}
use Rattle.rs_request.specs.Lines.{is_break, past_breaks}
use Rattle.rs_request.specs.Items.{pieces}
use Rattle.rs_request.specs.Texts.{cut, is_field}
use Rattle.rs_request.specs.RequestTexts.{request_in, request_lines, is_request, request_head}
use Rattle.rs_request.proofs.TextLemmas.{AllPass-from_test, test_from_AllPass, IsToken-from_test, test_from_IsToken, IsField-from_tests, tests_from_IsField, lacks, lacks_by, lacks_append, cut_at, line_piece, line_alone, section_found, section_room, no_token_10, no_token_13, no_token_32}

-- ---- what it gives is a head

valid_by_test : (h : RequestHead) → is_request h ≡ true → IsRequestHead h
valid_by_test h all =
    let method = and_parts (is_token h.method) _ all in
    let target = and_parts (nat_lt 0 (length h.target) && list_all is_uri_byte h.target) _ method.1 in
    let bytes = and_parts (nat_lt 0 (length h.target)) (list_all is_uri_byte h.target) target.0 in
    let text = and_parts (is_utf8 h.target) _ target.1 in
    let rest = and_parts (nat_le h.minor 1) (list_all is_field h.fields) text.1 in
    record {
      method = IsToken-from_test h.method method.0;
      target = (ltb-true 0 (length h.target) bytes.0, AllPass-from_test is_uri_byte h.target bytes.1);
      target_text = IsUtf8-from_is_utf8 h.target text.0;
      minor = leb-true h.minor 1 rest.0;
      fields = IsField-from_tests h.fields rest.1;
    }

test_by_valid : (h : RequestHead) → IsRequestHead h → is_request h ≡ true
test_by_valid h valid =
    and_from _ _ (test_from_IsToken h.method valid.method)
    (and_from _ _ (and_from _ _ (lt-ltb 0 (length h.target) valid.target.0) (test_from_AllPass is_uri_byte h.target valid.target.1))
    (and_from _ _ (is_utf8-from_IsUtf8 h.target valid.target_text)
    (and_from _ _ (le-leb h.minor 1 valid.minor) (tests_from_IsField h.fields valid.fields))))

-- what it gives is a head of the grammar, and the whole text
pub request_reads : (text : List ℕ) (h : RequestHead) → request_head text ≡ Some h → ReadsRequest text h []
unfolding request_head
request_reads text h is =
    let g = request_lines (pieces 10 text) in
    by_test g (is_request g && bytes_eq (print_request g) text) refl is
  where
    by_test : (g : RequestHead) (t : Bool) → (is_request g && bytes_eq (print_request g) text) ≡ t → cond t (Some g) None ≡ Some h → ReadsRequest text h []
    by_test g true e is =
        let same : g ≡ h = cc in
        let parts = and_parts (is_request g) (bytes_eq (print_request g) text) e in
        let printed = (bytes_eq-Decides (print_request g) text).0 parts.1 in
        subst (λ (k : RequestHead). ReadsRequest text k []) same (valid_by_test g parts.0, sym printed ∙ sym (append-nil (print_request g)))
    by_test g false e is = cc

-- ---- a head of the grammar is what it gives

pub past_breaks_le : (xs : List ℕ) → length (past_breaks xs) ≤ length xs
past_breaks_le [] = omega arith
past_breaks_le (x ∷ xs) = by_test (is_break x) (past_breaks_le xs)
  where
    by_test : (t : Bool) → length (past_breaks xs) ≤ length xs → length (cond t (past_breaks xs) (x ∷ xs)) ≤ suc (length xs)
    by_test true later = omega arith
    by_test false later = omega arith

pub no_blank : (blank : List LineEnd) (text rest : List ℕ) → past_breaks text ≡ text → text ≡ print_blank blank ++ rest → blank ≡ []
no_blank [] text rest clean e = refl
no_blank (crlf ∷ blank) text rest clean e =
    let after = 10 ∷ (print_blank blank ++ rest) in
    let shorter = ap length (sym (ap past_breaks e) ∙ clean ∙ e) in
    absurd (omega (arith, past_breaks_le after))
no_blank (lf ∷ blank) text rest clean e =
    let after = print_blank blank ++ rest in
    let shorter = ap length (sym (ap past_breaks e) ∙ clean ∙ e) in
    absurd (omega (arith, past_breaks_le after))

-- the first line
abbrev first_of : RequestHead → List ℕ
first_of h = h.method ++ 32 ∷ (h.target ++ 32 ∷ print_version h.minor)

pub version_lacks : (k minor : ℕ) → lacks k (codes "HTTP/1.") ≡ true → (48 + minor ≡ k → ⊥) → lacks k (print_version minor) ≡ true
version_lacks k minor fixed other =
    lacks_append k (codes "HTTP/1.") ((48 + minor) ∷ []) fixed (and_from _ _ (not_from_false _ (ne_eqb (48 + minor) k other)) refl)

first_lacks : (k : ℕ) (h : RequestHead) → IsRequestHead h → is_token_byte k ≡ false → is_uri_byte k ≡ false → lacks k (32 ∷ []) ≡ true
    → lacks k (print_version h.minor) ≡ true → lacks k (first_of h) ≡ true
first_lacks k h valid token uri space version =
    lacks_append k h.method (32 ∷ (h.target ++ 32 ∷ print_version h.minor)) (lacks_by is_token_byte k h.method token (test_from_AllPass is_token_byte h.method valid.method.1))
    (lacks_append k (32 ∷ []) (h.target ++ 32 ∷ print_version h.minor) space
    (lacks_append k h.target (32 ∷ print_version h.minor) (lacks_by is_uri_byte k h.target uri (test_from_AllPass is_uri_byte h.target valid.target.1))
    (lacks_append k (32 ∷ []) (print_version h.minor) space version)))

-- the whole text, line by line
head_text : (text : List ℕ) (h : RequestHead) → h.blank ≡ [] → ReadsRequest text h [] → text ≡ first_of h ++ (print_end h.line_end ++ (print_section h.fields h.last ++ []))
head_text text h none reads =
    let rest = print_end h.line_end ++ (print_section h.fields h.last ++ []) in
    reads.1 ∙ print_request-append h []
    ∙ ap (λ b. print_blank b ++ (h.method ++ 32 ∷ (h.target ++ 32 ∷ (print_version h.minor ++ rest)))) none
    ∙ regroup h.method h.target (print_version h.minor) rest
  where
    regroup : (a b c r : List ℕ) → a ++ 32 ∷ (b ++ 32 ∷ (c ++ r)) ≡ (a ++ 32 ∷ (b ++ 32 ∷ c)) ++ r
    regroup a b c r = simp (append_assoc, cons-append)

parts_found : (h : RequestHead) → h.blank ≡ [] → IsRequestHead h → request_in (first_of h, h.line_end) (h.fields, h.last) ≡ h
parts_found h none valid =
    let method = cut_at 32 h.method (h.target ++ 32 ∷ print_version h.minor) (lacks_by is_token_byte 32 h.method no_token_32 (test_from_AllPass is_token_byte h.method valid.method.1)) in
    let target = cut_at 32 h.target (print_version h.minor) (lacks_by is_uri_byte 32 h.target refl (test_from_AllPass is_uri_byte h.target valid.target.1)) in
    let later = ap (λ (r : List ℕ × List ℕ). cut 32 r.1) method ∙ target in
    let minor : slice_index (print_version h.minor) 7 - 48 ≡ h.minor = omega arith in
    let blank = sym none in
    (λ i. record {
      blank = [];
      method = (method i).0;
      target = (later i).0;
      minor = slice_index (later i).1 7 - 48;
      line_end = h.line_end;
      fields = h.fields;
      last = h.last;
    })
    ∙ (λ i. record h { blank = blank i; minor = minor i })

guess_found : (text : List ℕ) (h : RequestHead) → h.blank ≡ [] → ReadsRequest text h [] → request_lines (pieces 10 text) ≡ h
guess_found text h none reads =
    let valid = reads.0 in
    let small = valid.minor in
    let first = first_of h in
    let rest = print_section h.fields h.last ++ [] in
    let lines = ap (pieces 10) (head_text text h none reads)
    ∙ line_piece first h.line_end rest (first_lacks 10 h valid no_token_10 refl refl (version_lacks 10 h.minor refl (λ e. absurd (omega arith)))) in
    let alone = line_alone first h.line_end (first_lacks 13 h valid no_token_13 refl refl (version_lacks 13 h.minor refl (λ e. absurd (omega arith)))) in
    ap request_lines lines ∙ (λ i. request_in (alone i) (section_found h.fields h.last valid.fields i)) ∙ parts_found h none valid

-- a head of the grammar that is the whole text is what it gives
pub request_found : (text : List ℕ) (h : RequestHead) → past_breaks text ≡ text → ReadsRequest text h [] → request_head text ≡ Some h
unfolding request_head
request_found text h clean reads =
    let none = no_blank h.blank text _ clean (reads.1 ∙ print_request-append h []) in
    let guess = guess_found text h none reads in
    let printed = (bytes_eq-Decides (print_request h) text).1 (sym (reads.1 ∙ append-nil (print_request h))) in
    ap (λ g. cond (is_request g && bytes_eq (print_request g) text) (Some g) None) guess
    ∙ cond-true _ (Some h) None (and_from _ _ (test_by_valid h reads.0) printed)

-- a field takes at least three bytes
pub field_room : (text : List ℕ) (h : RequestHead) → ReadsRequest text h [] → 3 * length h.fields ≤ length text
field_room text h reads =
    let lines = ap length (reads.1 ∙ print_request-append h []) in
    let room = section_room h.fields reads.0.fields in
    let S = print_section h.fields h.last ++ [] in
    let E = print_end h.line_end ++ S in
    let V = print_version h.minor ++ E in
    let T = h.target ++ 32 ∷ V in
    omega (
      arith,
      length-append (print_blank h.blank) (h.method ++ 32 ∷ T),
      length-append h.method (32 ∷ T),
      length-append h.target (32 ∷ V),
      length-append (print_version h.minor) E,
      length-append (print_end h.line_end) S,
      length-append (print_section h.fields h.last) [],
      length-append (flat_map print_field h.fields) (print_end h.last),
    )

-- where no head of the grammar is the whole text, it gives none
pub request_none : (text : List ℕ) → ((h : RequestHead) → ReadsRequest text h [] → ⊥) → request_head text ≡ None
request_none text never = by_cases (request_head text) refl
  where
    by_cases : (o : Option RequestHead) → request_head text ≡ o → o ≡ None
    by_cases None e = refl
    by_cases (Some h) e = absurd (never h (request_reads text h e))

pub text_length : (text : List ℕ) (h : RequestHead) → ReadsRequest text h [] → length (print_request h) ≡ length text
text_length text h reads = sym (ap length (reads.1 ∙ append-nil (print_request h)))
