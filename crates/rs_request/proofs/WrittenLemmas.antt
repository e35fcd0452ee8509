-- What the writer of requests writes is spelled.
use Rattle.std.proofs.Common.{◌≡◌, ℕ, suc, ◌+◌, ◌≤◌, Bool, true, not, ◌&&◌, cond, List, [], ◌∷◌, ◌++◌, length, map, Some, Ok, Err, refl, sym, ap, ◌∙◌, arith}
use Rattle.std.specs.Prelude.{All, nat_lt}
use Rattle.std.specs.List.{flat_map}
use Rattle.std.proofs.lemmas.List.{append-nil, append_assoc, length-map}
use Rattle.std.proofs.lemmas.Bool.{cond-false, le-ltb}
use Rattle.httparse.specs.Grammar.{print_end, print_blank, print_version, print_field, print_section, RequestHead, IsRequestHead, print_request, trim_ows, is_uri_byte}
use Rattle.httparse.proofs.GrammarLemmas.{print_request-append, cons-append}
use Rattle.rs_request.specs.declared.field.Field.{Field}
use Rattle.rs_request.specs.declared.fault.WireWhy.TheVariants.{HeadLong}
use Rattle.rs_request.specs.declared.framing.Framing.TheVariants.{Length}
use Rattle.rs_request.specs.declared.message.RequestMessage.{RequestMessage}
use Rattle.rs_request.specs.Limits.{max_fields}
use Rattle.rs_request.specs.declared.search.Spot.TheVariants.{Before}
use Rattle.rs_request.specs.Lines.{first_empty_line}
use Rattle.rs_request.specs.Framing.{head_framing, expects_interim}
use Rattle.rs_request.specs.RequestHeads.{fields_of, begun_at, begun_by, judged_head}
use Rattle.rs_request.specs.Readings.{next_of, interim, message}
use Rattle.rs_request.specs.Division.{message_at}
use Rattle.rs_request.specs.Spelling.{SpellsRequest}
use Rattle.rs_request.specs.Writing.{field_text, request_head_text, request_text, line_for, head_for, IsWritable}
use Rattle.rs_request.specs.Laws.{placed_at, fed_at, awaits_by}
use Rattle.rs_request.proofs.TextLemmas.{test_from_AllPass, lacks, lacks_by, lacks_append}
use Rattle.rs_request.proofs.RequestLemmas.{version_lacks}
use Rattle.rs_request.proofs.SpellingLemmas.{spelled_is_read}
use Rattle.rs_request.proofs.AnswerLemmas.{message_answered}
use Rattle.rs_request.proofs.EndLemmas.{first_line_ends, section_ends}

-- ---- the end of a request's head

-- the first line after the method
abbrev after_method : RequestHead → List ℕ
after_method h = 32 ∷ (h.target ++ 32 ∷ print_version h.minor)

after_method_lacks : (h : RequestHead) → IsRequestHead h → lacks 10 (after_method h) ≡ true
after_method_lacks h valid =
    let small = valid.minor in
    lacks_append 10 (32 ∷ []) (h.target ++ 32 ∷ print_version h.minor) refl
    (lacks_append 10 h.target (32 ∷ print_version h.minor) (lacks_by is_uri_byte 10 h.target refl (test_from_AllPass is_uri_byte h.target valid.target.1))
    (lacks_append 10 (32 ∷ []) (print_version h.minor) refl (version_lacks 10 h.minor refl (λ e. absurd (omega arith)))))

-- a head, line by line
request_lines_are : (h : RequestHead) → h.blank ≡ [] → print_request h ≡ ((h.method ++ after_method h) ++ print_end h.line_end) ++ print_section h.fields h.last
request_lines_are h none =
    sym (append-nil (print_request h)) ∙ print_request-append h []
    ∙ (λ i. print_blank (none i) ++ (h.method ++ 32 ∷ (h.target ++ 32 ∷ (print_version h.minor ++ (print_end h.line_end ++ (append-nil (print_section h.fields h.last) i))))))
    ∙ regroup h.method h.target (print_version h.minor) (print_end h.line_end) (print_section h.fields h.last)
  where
    regroup : (a b c d e : List ℕ) → a ++ 32 ∷ (b ++ 32 ∷ (c ++ (d ++ e))) ≡ ((a ++ 32 ∷ (b ++ 32 ∷ c)) ++ d) ++ e
    regroup a b c d e = simp (append_assoc, cons-append)

pub request_ends : (h : RequestHead) → h.blank ≡ [] → IsRequestHead h → first_empty_line Before (print_request h) ≡ Some (length (print_request h))
request_ends h none valid =
    let text = request_lines_are h none in
    let first = (h.method ++ after_method h) ++ print_end h.line_end in
    ap (first_empty_line Before) text
    ∙ section_ends first h.fields h.last (first_line_ends h.method (after_method h) h.line_end valid.method (after_method_lacks h valid)) valid.fields
    ∙ ap (λ xs. Some (length xs)) (sym text)

-- ---- fields

field_text_is : (f : Field) → field_text f ≡ print_field (line_for f)
field_text_is f = sym (append_assoc f.name (58 ∷ 32 ∷ f.value) (13 ∷ 10 ∷ []))

pub fields_text_is : (fields : List Field) → flat_map field_text fields ≡ flat_map print_field (map line_for fields)
fields_text_is [] = refl
fields_text_is (f ∷ fields) = λ i. field_text_is f i ++ fields_text_is fields i

space_trimmed : (value : List ℕ) → trim_ows (32 ∷ value) ≡ trim_ows value
unfolding trim_ows
space_trimmed value = refl

pub fields_back : (fields : List Field) → All (λ f. trim_ows f.value ≡ f.value) fields → fields_of (map line_for fields) ≡ fields
fields_back [] all = refl
fields_back (f ∷ fields) all =
    let value = space_trimmed f.value ∙ all 0 f (omega arith) in
    let later = fields_back fields (λ k d below. all (suc k) d (omega arith)) in
    λ i. record f { value = value i } ∷ later i

-- ---- the whole text

request_head_is : (m : RequestMessage) → m.minor ≡ 1 → request_head_text m ≡ print_request (head_for m)
request_head_is m one =
    let section = ap (λ xs. xs ++ 13 ∷ 10 ∷ []) (fields_text_is m.fields) in
    (λ i. m.method ++ 32 ∷ (m.target ++ 32 ∷ (print_version (sym one i) ++ (13 ∷ 10 ∷ (sym (append-nil (section i)) i)))))
    ∙ sym (print_request-append (head_for m) []) ∙ append-nil (print_request (head_for m))

head_judged : (place : ℕ) (m : RequestMessage) → IsWritable m
    → judged_head place (head_for m) ≡ Ok (begun_at place m.method m.target m.minor m.fields (Length (length m.body)))
unfolding judged_head
head_judged place m w =
    let few : length (map line_for m.fields) ≤ max_fields = (let bound = w.few in omega (arith, length-map m.fields line_for)) in
    let back = fields_back m.fields w.trimmed in
    cond-false (nat_lt max_fields (length (map line_for m.fields))) (Err HeadLong) _ (le-ltb max_fields (length (map line_for m.fields)) few)
    ∙ (λ i. begun_by place m.method m.target m.minor (back i) (head_framing m.minor (length m.target) (back i)))
    ∙ ap (begun_by place m.method m.target m.minor m.fields) w.framed

pub written_is_spelled : (place : ℕ) (m : RequestMessage) → IsWritable m → SpellsRequest place (placed_at place m) (request_text m)
written_is_spelled place m w =
    let h = head_for m in
    let close = w.close in
    record {
      breaks = [];
      head = h;
      begun = begun_at place m.method m.target m.minor m.fields (Length (length m.body));
      tail = m.body;
      dropped = refl;
      valid = w.head;
      first = refl;
      ends = request_ends h refl w.head;
      short = w.short;
      judged = head_judged place m w;
      whole = ap (λ xs. xs ++ m.body) (request_head_is m w.minor);
      body = (refl, refl);
      same = λ i. record m { close = close i; place = place };
    }

-- ---- and so it is read

pub written_is_read : (place : ℕ) (m : RequestMessage) (after : List ℕ) → IsWritable m
    → message_at place (request_text m ++ after) ≡ Some (placed_at place m, place + length (request_text m))
written_is_read place m after w = spelled_is_read place (placed_at place m) (request_text m) after (written_is_spelled place m w)

pub written_is_answered : (place : ℕ) (m : RequestMessage) (after : List ℕ) (told : Bool) → IsWritable m
    → next_of (fed_at place (request_text m ++ after) told)
    ≡ cond (expects_interim m.minor m.fields (Length (length m.body)) && not told) interim (message (placed_at place m) (place + length (request_text m)))
written_is_answered place m after told w =
    let next = place + length (request_text m) in
    message_answered (fed_at place (request_text m ++ after) told) (placed_at place m) next refl (written_is_read place m after w)
    ∙ (λ i. cond (awaits_by (placed_at place m) (w.framed i) && not told) interim (message (placed_at place m) next))
