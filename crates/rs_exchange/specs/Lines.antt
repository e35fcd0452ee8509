-- The lines of a reply, part by part.
use Rattle.std.specs.Prelude.{ℕ, Bool, List, [], ◌∷◌, ◌++◌, length}
use Rattle.std.specs.List.{flat_map}
use Rattle.rs_request.specs.declared.field.Field.{Field}
use Rattle.rs_request.specs.Writing.{field_text}
use Rattle.rs_reply.specs.Writing.{status_line}
use Rattle.rs_exchange.specs.declared.manner.Manner.{Manner}
use Rattle.rs_exchange.specs.Replies.{Outline, origin_fields, length_fields, close_fields}

-- the lines of these fields
abbrev pub lines_of : List Field → List ℕ
lines_of fields = flat_map field_text fields

-- the lines up to those that are the answer's own
unfoldable pub first_lines : Bool → ℕ → List Field → List ℕ
first_lines shared status own = status_line status ++ (lines_of (origin_fields shared) ++ lines_of own)

-- the lines behind those, and the empty line
unfoldable pub last_lines : Bool → ℕ → ℕ → List ℕ
last_lines closing status size = lines_of (length_fields status size) ++ (lines_of (close_fields closing) ++ (13 ∷ 10 ∷ []))

-- the head of the reply of this outline
abbrev pub head_lines : Manner → Outline → List ℕ
head_lines manner it = first_lines manner.shared it.status it.fields ++ last_lines manner.closing it.status (length it.body)
