-- Names without case, and the fields that have a name (RFC 9110, section 5.1).
use Rattle.std.specs.Prelude.{ℕ, Bool, ◌&&◌, List, map, bytes_eq}
use Rattle.std.specs.Char.{to_ascii_lowercase}
use Rattle.rs_request.specs.declared.field.Field.{Field}

-- the same bytes, where letters have no case
unfoldable pub same_name : List ℕ → List ℕ → Bool
same_name a b = bytes_eq (map to_ascii_lowercase a) (map to_ascii_lowercase b)

-- the field has the name
abbrev pub is_field_named : List ℕ → Field → Bool
is_field_named name f = same_name f.name name

-- the field has the name and, without case, the value
abbrev pub says : List ℕ → List ℕ → Field → Bool
says name value f = is_field_named name f && same_name f.value value
