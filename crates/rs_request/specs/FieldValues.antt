-- The values of fields, as they are written.
use Rattle.std.specs.Prelude.{ℕ, List, [], ◌∷◌, ◌++◌, codes, decimal}
use Rattle.rs_request.specs.declared.field_line.FieldValue.{FieldValue}
use Rattle.rs_request.specs.declared.field_line.FieldValue.TheVariants.{Text, Number, Tag}

-- the entity tag of a version (RFC 9110, section 8.8.3)
unfoldable pub tag_text : ℕ → List ℕ
tag_text version = codes "\"" ++ (decimal version ++ codes "\"")

-- the text of a value
abbrev pub value_text : FieldValue → List ℕ
value_text (Text text) = text.now
value_text (Number number) = decimal number
value_text (Tag version) = tag_text version

-- a field line: name ":" SP value CR LF
unfoldable pub line_text : List ℕ → FieldValue → List ℕ
line_text name value = name ++ (codes ": " ++ (value_text value ++ (13 ∷ 10 ∷ [])))
