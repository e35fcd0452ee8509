-- The items of a value that is a list (RFC 9110, section 5.6.1).
use Rattle.std.specs.Prelude.{ℕ, Bool, List, ◌==◌}
use Rattle.std.specs.List.{list_any, slice_split}
use Rattle.httparse.specs.Grammar.{trim_ows}
use Rattle.rs_request.specs.Names.{same_name}

-- the pieces between the bytes that are c
abbrev pub pieces : ℕ → List ℕ → List (List ℕ)
pieces c = slice_split (λ b. b == c)

-- the piece is the item, without the blanks round it and without case
abbrev pub is_list_item : List ℕ → List ℕ → Bool
is_list_item item piece = same_name (trim_ows piece) item

-- an item between commas is this one
unfoldable pub lists : List ℕ → List ℕ → Bool
lists item value = list_any (is_list_item item) (pieces 44 value)
