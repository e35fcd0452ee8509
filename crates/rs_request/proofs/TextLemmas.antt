-- Facts on the parts of a head's text.
use Rattle.std.proofs.Common.{◌≡◌, ℕ, suc, ◌*◌, ◌≤◌, Bool, true, false, not, cond, eqb, List, [], ◌∷◌, ◌++◌, length, refl, sym, ap, ◌∙◌, arith}
use Rattle.std.specs.Prelude.{All}
use Rattle.std.specs.List.{list_all, flat_map}
use Rattle.std.proofs.lemmas.List.{append-nil, append_assoc, length-append}
use Rattle.std.proofs.lemmas.List.Folds.{list_all-append}
use Rattle.std.proofs.lemmas.List.Elements.{All-nil, All-cons}
use Rattle.std.proofs.lemmas.Bool.{and_parts, and_from, not-true, not_from_false, ne_eqb, cond-true, cond-false, eq-eqb, both_ways, ltb-true, lt-ltb}
use Rattle.httparse.specs.Grammar.{AllPass, IsToken, is_token, is_token_byte, is_value_byte, LineEnd, crlf, lf, print_end, Field, IsField, print_field, print_section}
use Rattle.std.specs.List.{onto_first}
use Rattle.rs_request.specs.Items.{pieces}
use Rattle.rs_request.specs.Texts.{cut, without_cr, field_in, fields_in, is_field}

-- ---- tests

pub AllPass-from_test : (p : ℕ → Bool) (xs : List ℕ) → list_all p xs ≡ true → AllPass p xs
AllPass-from_test p [] all = All-nil (λ b. p b ≡ true)
AllPass-from_test p (x ∷ xs) all =
    let parts = and_parts (p x) (list_all p xs) all in
    All-cons (λ b. p b ≡ true) x xs parts.0 (AllPass-from_test p xs parts.1)

pub test_from_AllPass : (p : ℕ → Bool) (xs : List ℕ) → AllPass p xs → list_all p xs ≡ true
test_from_AllPass p [] all = refl
test_from_AllPass p (x ∷ xs) all =
    and_from _ _ (all 0 0 (omega arith)) (test_from_AllPass p xs (λ k d below. all (suc k) d (omega arith)))

pub IsToken-from_test : (s : List ℕ) → is_token s ≡ true → IsToken s
IsToken-from_test s token =
    let parts = and_parts _ (list_all is_token_byte s) token in
    (ltb-true _ _ parts.0, AllPass-from_test is_token_byte s parts.1)

pub test_from_IsToken : (s : List ℕ) → IsToken s → is_token s ≡ true
test_from_IsToken s token = and_from _ _ (lt-ltb _ _ token.0) (test_from_AllPass is_token_byte s token.1)

pub IsField-from_tests : (fields : List Field) → list_all is_field fields ≡ true → All IsField fields
IsField-from_tests [] all = All-nil IsField
IsField-from_tests (f ∷ fields) all =
    let parts = and_parts (is_field f) (list_all is_field fields) all in
    let both = and_parts (is_token f.name) (list_all is_value_byte f.raw) parts.0 in
    All-cons IsField f fields (record { name = IsToken-from_test f.name both.0; raw = AllPass-from_test is_value_byte f.raw both.1 })
    (IsField-from_tests fields parts.1)

pub tests_from_IsField : (fields : List Field) → All IsField fields → list_all is_field fields ≡ true
tests_from_IsField [] all = refl
tests_from_IsField (f ∷ fields) all =
    let here = all 0 f (omega arith) in
    and_from _ _ (and_from _ _ (test_from_IsToken f.name here.name) (test_from_AllPass is_value_byte f.raw here.raw))
    (tests_from_IsField fields (λ k d below. all (suc k) d (omega arith)))

-- ---- bytes that a text lacks

abbrev pub lacks : ℕ → List ℕ → Bool
lacks k xs = list_all (λ b. not (eqb b k)) xs

-- bytes that pass a test which k fails
pub lacks_by : (p : ℕ → Bool) (k : ℕ) (xs : List ℕ) → p k ≡ false → list_all p xs ≡ true → lacks k xs ≡ true
lacks_by p k [] fails all = refl
lacks_by p k (x ∷ xs) fails all =
    let parts = and_parts (p x) (list_all p xs) all in
    and_from _ _ (not_from_false _ (ne_eqb x k (λ same. both_ways (p k) fails (ap p (sym same) ∙ parts.0)))) (lacks_by p k xs fails parts.1)

pub lacks_append : (k : ℕ) (xs ys : List ℕ) → lacks k xs ≡ true → lacks k ys ≡ true → lacks k (xs ++ ys) ≡ true
lacks_append k xs ys first second = list_all-append (λ b. not (eqb b k)) xs ys ∙ and_from _ _ first second

-- ---- cuts

pub cut_at : (c : ℕ) (xs ys : List ℕ) → lacks c xs ≡ true → cut c (xs ++ c ∷ ys) ≡ (xs, ys)
cut_at c [] ys none = cond-true {A = List ℕ × List ℕ} (eqb c c) ([], ys) (c ∷ (cut c ys).0, (cut c ys).1) (eq-eqb c c refl)
cut_at c (x ∷ xs) ys none =
    let parts = and_parts (not (eqb x c)) (lacks c xs) none in
    let rest = cut c (xs ++ c ∷ ys) in
    cond-false {A = List ℕ × List ℕ} (eqb x c) ([], xs ++ c ∷ ys) (x ∷ rest.0, rest.1) (not-true _ parts.0)
    ∙ ap (λ (r : List ℕ × List ℕ). (x ∷ r.0, r.1)) (cut_at c xs ys parts.1)

pub pieces_cut : (c : ℕ) (xs ys : List ℕ) → lacks c xs ≡ true → pieces c (xs ++ c ∷ ys) ≡ xs ∷ pieces c ys
pieces_cut c [] ys none = cond-true (eqb c c) ([] ∷ pieces c ys) (onto_first c (pieces c ys)) (eq-eqb c c refl)
pieces_cut c (x ∷ xs) ys none =
    let parts = and_parts (not (eqb x c)) (lacks c xs) none in
    cond-false (eqb x c) ([] ∷ pieces c (xs ++ c ∷ ys)) (onto_first x (pieces c (xs ++ c ∷ ys))) (not-true _ parts.0)
    ∙ ap (onto_first x) (pieces_cut c xs ys parts.1)

-- what a line end leaves before its LF
abbrev pub cr : LineEnd → List ℕ
cr crlf = 13 ∷ []
cr lf = []

-- a line and its end
pub line_cut : (w : List ℕ) (e : LineEnd) (rest : List ℕ) → w ++ (print_end e ++ rest) ≡ (w ++ cr e) ++ 10 ∷ rest
line_cut w crlf rest = sym (append_assoc w (13 ∷ []) (10 ∷ rest))
line_cut w lf rest = ap (λ xs. xs ++ 10 ∷ rest) (sym (append-nil w))

pub line_piece : (w : List ℕ) (e : LineEnd) (rest : List ℕ) → lacks 10 w ≡ true → pieces 10 (w ++ (print_end e ++ rest)) ≡ (w ++ cr e) ∷ pieces 10 rest
line_piece w e rest none = ap (pieces 10) (line_cut w e rest) ∙ pieces_cut 10 (w ++ cr e) rest (lacks_append 10 w (cr e) none (ends e))
  where
    ends : (e : LineEnd) → lacks 10 (cr e) ≡ true
    ends crlf = refl
    ends lf = refl

pub line_alone : (w : List ℕ) (e : LineEnd) → lacks 13 w ≡ true → without_cr (w ++ cr e) ≡ (w, e)
line_alone [] crlf none = refl
line_alone [] lf none = refl
line_alone (b ∷ []) crlf none = refl
line_alone (b ∷ []) lf none =
    let parts = and_parts (not (eqb b 13)) true none in
    cond-false {A = List ℕ × LineEnd} (eqb b 13) ([], crlf) (b ∷ [], lf) (not-true _ parts.0)
line_alone (b ∷ c ∷ w) e none =
    let parts = and_parts (not (eqb b 13)) (lacks 13 (c ∷ w)) none in
    ap (λ (r : List ℕ × LineEnd). (b ∷ r.0, r.1)) (line_alone (c ∷ w) e parts.1)

-- ---- field lines

token_lacks : (k : ℕ) (s : List ℕ) → is_token_byte k ≡ false → IsToken s → lacks k s ≡ true
token_lacks k s fails token = lacks_by is_token_byte k s fails (test_from_AllPass is_token_byte s token.1)

pub no_token_10 : is_token_byte 10 ≡ false
unfolding is_token_byte
no_token_10 = refl

pub no_token_13 : is_token_byte 13 ≡ false
unfolding is_token_byte
no_token_13 = refl

pub no_token_32 : is_token_byte 32 ≡ false
unfolding is_token_byte
no_token_32 = refl

pub no_token_58 : is_token_byte 58 ≡ false
unfolding is_token_byte
no_token_58 = refl

abbrev line_of : Field → List ℕ
line_of f = f.name ++ 58 ∷ f.raw

line_lacks : (k : ℕ) (f : Field) → IsField f → is_token_byte k ≡ false → eqb 58 k ≡ false → is_value_byte k ≡ false → lacks k (line_of f) ≡ true
line_lacks k f valid token colon value =
    lacks_append k f.name (58 ∷ f.raw) (token_lacks k f.name token valid.name)
    (and_from _ _ (not_from_false _ colon) (lacks_by is_value_byte k f.raw value (test_from_AllPass is_value_byte f.raw valid.raw)))

-- the field lines of a section are found again
pub section_found : (fields : List Field) (last : LineEnd) → All IsField fields → fields_in (pieces 10 (print_section fields last ++ [])) ≡ (fields, last)
section_found [] crlf all = refl
section_found [] lf all = refl
section_found (f ∷ fields) last all =
    let valid = all 0 f (omega arith) in
    let w = line_of f in
    let R = print_section fields last ++ [] in
    let text : print_section (f ∷ fields) last ++ [] ≡ w ++ (print_end f.end ++ R) =
    ap (λ xs. (xs ++ print_end last) ++ []) (append_assoc w (print_end f.end) (flat_map print_field fields))
    ∙ ap (λ xs. xs ++ []) (append_assoc w (print_end f.end ++ flat_map print_field fields) (print_end last))
    ∙ append_assoc w ((print_end f.end ++ flat_map print_field fields) ++ print_end last) []
    ∙ ap (λ xs. w ++ xs) (ap (λ xs. xs ++ []) (append_assoc (print_end f.end) (flat_map print_field fields) (print_end last))
    ∙ append_assoc (print_end f.end) (print_section fields last) []) in
    let lines = ap (pieces 10) text ∙ line_piece w f.end R (line_lacks 10 f valid no_token_10 refl refl) in
    let alone = line_alone w f.end (line_lacks 13 f valid no_token_13 refl refl) in
    let again = section_found fields last (λ k d below. all (suc k) d (omega arith)) in
    let parts = cut_at 58 f.name f.raw (token_lacks 58 f.name no_token_58 valid.name) in
    let some : eqb (length w) 0 ≡ false = ne_eqb (length w) 0 (λ none. absurd (omega (arith, length-append f.name (58 ∷ f.raw)))) in
    ap fields_in lines
    ∙ ap (λ (l : List ℕ × LineEnd). cond {A = List Field × LineEnd} (eqb (length l.0) 0) ([], l.1) (field_in l ∷ (fields_in (pieces 10 R)).0, (fields_in (pieces 10 R)).1)) alone
    ∙ cond-false {A = List Field × LineEnd} (eqb (length w) 0) ([], f.end) (field_in (w, f.end) ∷ (fields_in (pieces 10 R)).0, (fields_in (pieces 10 R)).1) some
    ∙ (λ i. (record { name = (parts i).0; raw = (parts i).1; end = f.end } ∷ (again i).0, (again i).1))

-- a field line takes at least three bytes
pub section_room : (fields : List Field) → All IsField fields → 3 * length fields ≤ length (flat_map print_field fields)
section_room [] all = omega arith
section_room (f ∷ fields) all =
    let some = (all 0 f (omega arith)).name.0 in
    let end = end_room f.end in
    let later = section_room fields (λ k d below. all (suc k) d (omega arith)) in
    omega (arith, length-append (print_field f) (flat_map print_field fields), length-append (f.name ++ 58 ∷ f.raw) (print_end f.end), length-append f.name (58 ∷ f.raw))
  where
    end_room : (e : LineEnd) → 1 ≤ length (print_end e)
    end_room crlf = omega arith
    end_room lf = omega arith
