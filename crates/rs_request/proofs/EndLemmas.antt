-- A head of the grammar ends with its first empty line.
use Rattle.std.proofs.Common.{◌≡◌, ℕ, suc, ◌+◌, true, false, not, eqb, List, [], ◌∷◌, ◌++◌, length, Option, Some, None, cond, refl, sym, ap, ◌∙◌, arith}
use Rattle.std.specs.Prelude.{All}
use Rattle.std.specs.List.{list_all, flat_map}
use Rattle.std.specs.Option.{option_and_then}
use Rattle.std.proofs.lemmas.List.{append_assoc, length-append}
use Rattle.std.proofs.lemmas.Bool.{and_parts, and_from, not-true, ne_eqb, cond-false, or_from, both_ways}
use Rattle.httparse.specs.Grammar.{IsToken, is_token_byte, is_value_byte, LineEnd, crlf, lf, print_end, Field, IsField, print_field, print_section}
use Rattle.rs_request.specs.declared.search.Spot.{Spot}
use Rattle.rs_request.specs.declared.search.Spot.TheVariants.{Before, Within, Fresh, Turned}
use Rattle.rs_request.specs.Lines.{is_break, next_spot, first_empty_line, spot_after}
use Rattle.rs_request.proofs.LinesLemmas.{spot_more, empty_line_found}
use Rattle.rs_request.proofs.TextLemmas.{test_from_AllPass, lacks, lacks_by, lacks_append, no_token_10, no_token_13}

-- ---- where a search stands after a text

abbrev goes_on : List ℕ → Option Spot → Option Spot
goes_on xs o = option_and_then (λ next. spot_after next xs) o

-- bytes without LF stay within their line
spot_within : (w : List ℕ) → lacks 10 w ≡ true → spot_after Within w ≡ Some Within
spot_within [] none = refl
spot_within (b ∷ w) none =
    let parts = and_parts (not (eqb b 10)) (lacks 10 w) none in
    ap (goes_on w) (cond-false (eqb b 10) (Some Fresh) (Some Within) (not-true _ parts.0)) ∙ spot_within w parts.1

-- a line leads to the start of the next
pub line_ends : (s : Spot) (b : ℕ) (w : List ℕ) (e : LineEnd) → next_spot s b ≡ Some Within → lacks 10 w ≡ true
    → spot_after s (b ∷ (w ++ print_end e)) ≡ Some Fresh
line_ends s b w e first none =
    ap (goes_on (w ++ print_end e)) first ∙ spot_more Within Within w (print_end e) (spot_within w none) ∙ by_end e
  where
    by_end : (e : LineEnd) → spot_after Within (print_end e) ≡ Some Fresh
    by_end crlf = refl
    by_end lf = refl

-- ---- lines that begin with a token

no_10 : (b : ℕ) → is_token_byte b ≡ true → eqb b 10 ≡ false
no_10 b token = ne_eqb b 10 (λ e. both_ways (is_token_byte 10) no_token_10 (ap is_token_byte (sym e) ∙ token))

no_13 : (b : ℕ) → is_token_byte b ≡ true → eqb b 13 ≡ false
no_13 b token = ne_eqb b 13 (λ e. both_ways (is_token_byte 13) no_token_13 (ap is_token_byte (sym e) ∙ token))

begins_before : (b : ℕ) → is_token_byte b ≡ true → next_spot Before b ≡ Some Within
begins_before b token = cond-false (is_break b) (Some Before) (Some Within) (or_from _ _ (no_13 b token) (no_10 b token))

begins_fresh : (b : ℕ) → is_token_byte b ≡ true → next_spot Fresh b ≡ Some Within
begins_fresh b token =
    cond-false (eqb b 10) None (cond (eqb b 13) (Some Turned) (Some Within)) (no_10 b token)
    ∙ cond-false (eqb b 13) (Some Turned) (Some Within) (no_13 b token)

token_line : (s : Spot) → ((b : ℕ) → is_token_byte b ≡ true → next_spot s b ≡ Some Within) → (name more : List ℕ) (e : LineEnd)
    → IsToken name → lacks 10 (name ++ more) ≡ true → spot_after s ((name ++ more) ++ print_end e) ≡ Some Fresh
token_line s begins [] more e token none = let some = token.0 in absurd (omega arith)
token_line s begins (b ∷ name) more e token none =
    let first = and_parts (is_token_byte b) (list_all is_token_byte name) (test_from_AllPass is_token_byte (b ∷ name) token.1) in
    line_ends s b (name ++ more) e (begins b first.0) (and_parts (not (eqb b 10)) (lacks 10 (name ++ more)) none).1

-- the first line of a request
pub first_line_ends : (name more : List ℕ) (e : LineEnd) → IsToken name → lacks 10 more ≡ true
    → spot_after Before ((name ++ more) ++ print_end e) ≡ Some Fresh
first_line_ends name more e token none =
    token_line Before begins_before name more e token
    (lacks_append 10 name more (lacks_by is_token_byte 10 name no_token_10 (test_from_AllPass is_token_byte name token.1)) none)

field_line_ends : (f : Field) → IsField f → spot_after Fresh (print_field f) ≡ Some Fresh
field_line_ends f valid =
    token_line Fresh begins_fresh f.name (58 ∷ f.raw) f.end valid.name
    (lacks_append 10 f.name (58 ∷ f.raw) (lacks_by is_token_byte 10 f.name no_token_10 (test_from_AllPass is_token_byte f.name valid.name.1))
    (and_from _ _ refl (lacks_by is_value_byte 10 f.raw refl (test_from_AllPass is_value_byte f.raw valid.raw))))

field_lines_end : (fields : List Field) → All IsField fields → spot_after Fresh (flat_map print_field fields) ≡ Some Fresh
field_lines_end [] all = refl
field_lines_end (f ∷ fields) all =
    spot_more Fresh Fresh (print_field f) (flat_map print_field fields) (field_line_ends f (all 0 f (omega arith)))
    ∙ field_lines_end fields (λ k d below. all (suc k) d (omega arith))

-- ---- the empty line

empty_line_ends : (s : Spot) (xs : List ℕ) (last : LineEnd) → spot_after s xs ≡ Some Fresh
    → first_empty_line s (xs ++ print_end last) ≡ Some (length (xs ++ print_end last))
empty_line_ends s xs lf at =
    let n : length xs + 1 ≡ length (xs ++ 10 ∷ []) = omega (arith, length-append xs (10 ∷ [])) in
    empty_line_found s Fresh xs 10 [] at refl ∙ ap Some n
empty_line_ends s xs crlf at =
    let n : length (xs ++ 13 ∷ []) + 1 ≡ length (xs ++ 13 ∷ 10 ∷ []) = omega (arith, length-append xs (13 ∷ []), length-append xs (13 ∷ 10 ∷ [])) in
    ap (first_empty_line s) (sym (append_assoc xs (13 ∷ []) (10 ∷ [])))
    ∙ empty_line_found s Turned (xs ++ 13 ∷ []) 10 [] (spot_more s Fresh xs (13 ∷ []) at) refl ∙ ap Some n

-- a first line, field lines and an empty line
pub section_ends : (first : List ℕ) (fields : List Field) (last : LineEnd) → spot_after Before first ≡ Some Fresh → All IsField fields
    → first_empty_line Before (first ++ print_section fields last) ≡ Some (length (first ++ print_section fields last))
section_ends first fields last at all =
    let same = append_assoc first (flat_map print_field fields) (print_end last) in
    ap (first_empty_line Before) (sym same)
    ∙ empty_line_ends Before (first ++ flat_map print_field fields) last
    (spot_more Before Fresh first (flat_map print_field fields) at ∙ field_lines_end fields all)
    ∙ ap (λ xs. Some (length xs)) same
