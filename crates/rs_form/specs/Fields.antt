-- The fields of a query or of a form's body (URL Standard, section 5).
use Rattle.std.specs.Prelude.{ℕ, List, [], ◌∷◌, map, Option, Some, None, IsUtf8, if◌then◌else◌}
use Rattle.std.specs.Str.{bytes_eq}
use Rattle.std.specs.Str.Lossy.{utf8_lossy}
use Rattle.form_urlencoded.specs.Form.{decode, raw_pairs}

-- the texts of a name and a value; bytes that aren't UTF-8 read as U+FFFD
abbrev pub field_texts : List ℕ × List ℕ → List ℕ × List ℕ
field_texts field = (utf8_lossy field.0, utf8_lossy field.1)

-- encoded names and values, as texts
abbrev pub decoded_fields : List (List ℕ × List ℕ) → List (List ℕ × List ℕ)
decoded_fields pairs = map (λ pair. field_texts (decode pair.0, decode pair.1)) pairs

-- the fields in order, each a name and a value
abbrev pub form_fields : List ℕ → List (List ℕ × List ℕ)
form_fields query = decoded_fields (raw_pairs query)

-- the values of those fields that have this name
abbrev pub values_among : List ℕ → List (List ℕ × List ℕ) → List (List ℕ)
values_among name [] = []
values_among name (field ∷ fields) = if bytes_eq field.0 name then field.1 ∷ values_among name fields
    else values_among name fields

abbrev pub form_values : List ℕ → List ℕ → List (List ℕ)
form_values name query = values_among name (form_fields query)

-- the one value of a field that stands once
abbrev pub one_value : List (List ℕ) → Option (List ℕ)
one_value [] = None
one_value (value ∷ []) = Some value
one_value (value ∷ other ∷ others) = None

abbrev pub first_value : List (List ℕ) → Option (List ℕ)
first_value [] = None
first_value (value ∷ others) = Some value

-- a name and a value that are texts
abbrev pub IsTextField : List ℕ × List ℕ → Type 0
IsTextField field = IsUtf8 field.0 × IsUtf8 field.1
