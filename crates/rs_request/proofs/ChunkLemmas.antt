-- `chunk_line` is httparse's grammar.
use Rattle.std.proofs.Common.{◌≡◌, ℕ, ◌⊎◌, inl, inr, Bool, true, false, not, cond, eqb, ◌&&◌, List, [], ◌∷◌, ◌++◌, length, drop, Option, Some, None, refl, sym, ap, ◌∙◌, subst}
use Rattle.std.specs.Prelude.{option_map, bytes_eq, nat_lt, nat_le}
use Rattle.std.specs.List.{list_all}
use Rattle.std.specs.Char.{is_ascii_hexdigit}
use Rattle.std.proofs.lemmas.List.{append-nil, append_assoc, drop_at}
use Rattle.std.proofs.lemmas.Bool.{and_parts, and_from, or_cases, not-true, not_from_false, cond-true, cond-false, ltb-true, lt-ltb, leb-true, le-leb, eqb-true}
use Rattle.std.proofs.lemmas.Slice.Eq.{bytes_eq-Decides}
use Rattle.httparse.specs.Grammar.{is_ows, is_extension_byte, IsExtension, print_extension, ChunkLine, IsChunkLine, print_chunk_line, ReadsChunkLine, chunk_size}
use Rattle.rs_request.specs.ChunkTexts.{front, extension_in, chunk_in, is_extension, is_chunk_line, chunk_line, size_of}
use Rattle.rs_request.proofs.TextLemmas.{AllPass-from_test, test_from_AllPass, lacks_by}

valid_by_test : (l : ChunkLine) → is_chunk_line l ≡ true → IsChunkLine l
valid_by_test l all =
    let digits = and_parts (nat_lt 0 (length l.digits) && (nat_le (length l.digits) 16 && list_all is_ascii_hexdigit l.digits)) _ all in
    let some = and_parts (nat_lt 0 (length l.digits)) _ digits.0 in
    let few = and_parts (nat_le (length l.digits) 16) (list_all is_ascii_hexdigit l.digits) some.1 in
    let rest = and_parts (list_all is_ows l.pad) (is_extension l.extension) digits.1 in
    record {
      digits = (ltb-true 0 (length l.digits) some.0, leb-true (length l.digits) 16 few.0, AllPass-from_test is_ascii_hexdigit l.digits few.1);
      pad = AllPass-from_test is_ows l.pad rest.0;
      extension = of_extension l.extension rest.1;
    }
  where
    of_extension : (e : Option (List ℕ)) → is_extension e ≡ true → IsExtension e
    of_extension None all = tt
    of_extension (Some text) all = AllPass-from_test is_extension_byte text all

test_by_valid : (l : ChunkLine) → IsChunkLine l → is_chunk_line l ≡ true
test_by_valid l valid =
    and_from _ _ (and_from _ _ (lt-ltb 0 (length l.digits) valid.digits.0)
    (and_from _ _ (le-leb (length l.digits) 16 valid.digits.1) (test_from_AllPass is_ascii_hexdigit l.digits valid.digits.2)))
    (and_from _ _ (test_from_AllPass is_ows l.pad valid.pad) (of_extension l.extension valid.extension))
  where
    of_extension : (e : Option (List ℕ)) → IsExtension e → is_extension e ≡ true
    of_extension None all = refl
    of_extension (Some text) all = test_from_AllPass is_extension_byte text all

-- what it gives is a chunk line, and the whole text
pub chunk_reads : (text : List ℕ) (l : ChunkLine) → chunk_line text ≡ Some l → ReadsChunkLine text l []
unfolding chunk_line
chunk_reads text l is =
    let g = chunk_in text in by_test g (is_chunk_line g && bytes_eq (print_chunk_line g) text) refl is
  where
    by_test : (g : ChunkLine) (t : Bool) → (is_chunk_line g && bytes_eq (print_chunk_line g) text) ≡ t → cond t (Some g) None ≡ Some l → ReadsChunkLine text l []
    by_test g true e is =
        let same : g ≡ l = cc in
        let parts = and_parts (is_chunk_line g) (bytes_eq (print_chunk_line g) text) e in
        let printed = (bytes_eq-Decides (print_chunk_line g) text).0 parts.1 in
        subst (λ (k : ChunkLine). ReadsChunkLine text k []) same (valid_by_test g parts.0, sym printed ∙ sym (append-nil (print_chunk_line g)))
    by_test g false e is = cc

-- the first byte fails the test, or there is none
abbrev stops : (ℕ → Bool) → List ℕ → Bool
stops test [] = true
stops test (b ∷ bytes) = not (test b)

front_all : (test : ℕ → Bool) (xs ys : List ℕ) → list_all test xs ≡ true → stops test ys ≡ true → front test (xs ++ ys) ≡ xs
front_all test [] [] all stop = refl
front_all test [] (y ∷ ys) all stop = cond-false (test y) (y ∷ front test ys) [] (not-true _ stop)
front_all test (x ∷ xs) ys all stop =
    let parts = and_parts (test x) (list_all test xs) all in
    cond-true (test x) (x ∷ front test (xs ++ ys)) [] parts.0 ∙ ap (λ zs. x ∷ zs) (front_all test xs ys parts.1 stop)

-- what follows the digits and the blanks
abbrev tail_of : Option (List ℕ) → List ℕ
tail_of e = print_extension e ++ (13 ∷ 10 ∷ [])

tail_stops : (test : ℕ → Bool) (e : Option (List ℕ)) → test 59 ≡ false → test 13 ≡ false → stops test (tail_of e) ≡ true
tail_stops test None colon cr = not_from_false _ cr
tail_stops test (Some text) colon cr = not_from_false _ colon

pad_stops : (pad : List ℕ) (e : Option (List ℕ)) → list_all is_ows pad ≡ true → stops is_ascii_hexdigit (pad ++ tail_of e) ≡ true
pad_stops [] e all = tail_stops is_ascii_hexdigit e refl refl
pad_stops (b ∷ pad) e all =
    let blank : is_ows b ≡ true = (and_parts (is_ows b) (list_all is_ows pad) all).0 in
    blank_stops (or_cases (eqb b 32) (eqb b 9) blank)
  where
    blank_stops : (eqb b 32 ≡ true) ⊎ (eqb b 9 ≡ true) → not (is_ascii_hexdigit b) ≡ true
    blank_stops (inl space) = ap (λ c. not (is_ascii_hexdigit c)) (eqb-true b 32 space)
    blank_stops (inr tab) = ap (λ c. not (is_ascii_hexdigit c)) (eqb-true b 9 tab)

extension_found : (e : Option (List ℕ)) → IsExtension e → extension_in (tail_of e) ≡ e
extension_found None valid = refl
extension_found (Some text) valid =
    ap Some (front_all (λ c. not (eqb c 13)) text (13 ∷ 10 ∷ [])
    (lacks_by is_extension_byte 13 text refl (test_from_AllPass is_extension_byte text valid)) refl)

regroup : (l : ChunkLine) → print_chunk_line l ≡ l.digits ++ (l.pad ++ tail_of l.extension)
unfolding print_chunk_line
regroup l =
    append_assoc (l.digits ++ l.pad) (print_extension l.extension) (13 ∷ 10 ∷ []) ∙ append_assoc l.digits l.pad (tail_of l.extension)

guess_found : (text : List ℕ) (l : ChunkLine) → ReadsChunkLine text l [] → chunk_in text ≡ l
guess_found text l reads =
    let valid = reads.0 in
    let after = l.pad ++ tail_of l.extension in
    let whole : text ≡ l.digits ++ after = reads.1 ∙ append-nil (print_chunk_line l) ∙ regroup l in
    let digits = ap (front is_ascii_hexdigit) whole
    ∙ front_all is_ascii_hexdigit l.digits after (test_from_AllPass is_ascii_hexdigit l.digits valid.digits.2)
    (pad_stops l.pad l.extension (test_from_AllPass is_ows l.pad valid.pad)) in
    let rest : drop (length (front is_ascii_hexdigit text)) text ≡ after =
    (λ i. drop (length (digits i)) (whole i)) ∙ drop_at l.digits after (length l.digits) refl in
    let pad = ap (front is_ows) rest
    ∙ front_all is_ows l.pad (tail_of l.extension) (test_from_AllPass is_ows l.pad valid.pad) (tail_stops is_ows l.extension refl refl) in
    let tail = (λ i. drop (length (pad i)) (rest i)) ∙ drop_at l.pad (tail_of l.extension) (length l.pad) refl in
    let extension = ap extension_in tail ∙ extension_found l.extension valid.extension in
    (λ i. record { digits = digits i; pad = pad i; extension = extension i })

-- a chunk line that is the whole text is what it gives
pub chunk_found : (text : List ℕ) (l : ChunkLine) → ReadsChunkLine text l [] → chunk_line text ≡ Some l
unfolding chunk_line
chunk_found text l reads =
    let printed = (bytes_eq-Decides (print_chunk_line l) text).1 (sym (reads.1 ∙ append-nil (print_chunk_line l))) in
    ap (λ g. cond (is_chunk_line g && bytes_eq (print_chunk_line g) text) (Some g) None) (guess_found text l reads)
    ∙ cond-true _ (Some l) None (and_from _ _ (test_by_valid l reads.0) printed)

pub size_none : (text : List ℕ) → ((l : ChunkLine) → ReadsChunkLine text l [] → ⊥) → size_of text ≡ None
unfolding size_of
size_none text never = ap (option_map chunk_size) (by_cases (chunk_line text) refl)
  where
    by_cases : (o : Option ChunkLine) → chunk_line text ≡ o → o ≡ None
    by_cases None e = refl
    by_cases (Some l) e = absurd (never l (chunk_reads text l e))

pub size_some : (text : List ℕ) (l : ChunkLine) → ReadsChunkLine text l [] → size_of text ≡ Some (chunk_size l)
unfolding size_of
size_some text l reads = ap (option_map chunk_size) (chunk_found text l reads)
