-- The fields of a request by their names (RFC 9110, section 5).
use Rattle.std.specs.Prelude.{◌≡◌, ℕ, ◌≤◌, List, [], ◌∷◌, ◌++◌, length, map, filter, Option, Some, None, codes}
use Rattle.std.specs.List.{flat_map}
use Rattle.rs_request.specs.declared.field.Field.{Field}
use Rattle.rs_request.specs.Names.{is_field_named}
use Rattle.rs_exchange.specs.declared.fields.Occurs.{Occurs}
use Rattle.rs_exchange.specs.declared.fields.Occurs.TheVariants.{Never, Once, Often}

-- the values of the fields of that name, in their order
abbrev pub values_of : List ℕ → List Field → List (List ℕ)
values_of name fields = map (λ (f : Field). f.value) (filter (is_field_named name) fields)

-- the values joined by a comma and a space (RFC 9110, section 5.3), where there is one
abbrev pub joined : List (List ℕ) → Option (List ℕ)
joined [] = None
joined (value ∷ values) = Some (value ++ flat_map (λ other. codes ", " ++ other) values)

-- joined values, and one more
abbrev pub with_value : Option (List ℕ) → List ℕ → List ℕ
with_value None value = value
with_value (Some text) value = text ++ (codes ", " ++ value)

-- a field that occurs so has these values
abbrev pub Occurring : Occurs → List (List ℕ) → Type 0
Occurring Never values = values ≡ []
Occurring (Once value) values = values ≡ value.now ∷ []
Occurring Often values = 2 ≤ length values
