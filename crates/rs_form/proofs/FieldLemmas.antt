-- Fields, read one after another, and read back as they were written.
use Rattle.std.proofs.Common.{◌≡◌, ℕ, Bool, true, false, cond, List, [], ◌∷◌, ◌++◌, map, All, refl, sym, ap, ap₂, ◌∙◌}
use Rattle.std.specs.Str.{bytes_eq}
use Rattle.std.specs.Str.Lossy.{utf8_lossy}
use Rattle.std.proofs.lemmas.List.Elements.{All-head, All-tail, All-weaker}
use Rattle.std.proofs.lemmas.Str.{utf8_lossy-IsUtf8}
use Rattle.form_urlencoded.specs.Form.{decode, raw_pairs, extend_pairs}
use Rattle.form_urlencoded.proofs.FormLemmas.{IsBytePair, round_trip}
use Rattle.rs_form.specs.Fields.{field_texts, decoded_fields, form_fields, values_among, IsTextField}
use Rattle.rs_form.proofs.TextBytes.{text_bytes}

-- the values of the first field and of the others
first_by : (test : Bool) (value : List ℕ) (others : List (List ℕ)) → cond test (value ∷ others) others ≡ cond test (value ∷ []) [] ++ others
first_by true value others = refl
first_by false value others = refl

pub values_next : (name : List ℕ) (pair : List ℕ × List ℕ) (pairs : List (List ℕ × List ℕ))
    → values_among name (decoded_fields (pair ∷ pairs)) ≡ values_among name (decoded_fields (pair ∷ [])) ++ values_among name (decoded_fields pairs)
values_next name pair pairs =
    first_by (bytes_eq (utf8_lossy (decode pair.0)) name) (utf8_lossy (decode pair.1)) (values_among name (decoded_fields pairs))

-- the fields are the texts of what the standard's parser gives
texts_of_parse : (pairs : List (List ℕ × List ℕ)) → decoded_fields pairs ≡ map field_texts (map (λ (name, value). (decode name, decode value)) pairs)
texts_of_parse [] = refl
texts_of_parse (pair ∷ pairs) =
    ap (λ (xs : List (List ℕ × List ℕ)). field_texts (decode pair.0, decode pair.1) ∷ xs) (texts_of_parse pairs)

texts_again : (fields : List (List ℕ × List ℕ)) → All IsTextField fields → map field_texts fields ≡ fields
texts_again [] all = refl
texts_again (field ∷ fields) all =
    let first = All-head IsTextField field fields all in
    ap₂ (λ (x : List ℕ × List ℕ) (xs : List (List ℕ × List ℕ)). x ∷ xs)
    (λ i. (utf8_lossy-IsUtf8 field.0 first.0 i, utf8_lossy-IsUtf8 field.1 first.1 i)) (texts_again fields (All-tail IsTextField field fields all))

-- what was written is read back
pub form_back : (fields : List (List ℕ × List ℕ)) → All IsTextField fields → form_fields (extend_pairs [] fields) ≡ fields
form_back fields all =
    let small = All-weaker IsTextField IsBytePair (λ field texts. (text_bytes field.0 texts.0, text_bytes field.1 texts.1)) fields all in
    texts_of_parse (raw_pairs (extend_pairs [] fields)) ∙ ap (map field_texts) (round_trip fields small) ∙ texts_again fields all
