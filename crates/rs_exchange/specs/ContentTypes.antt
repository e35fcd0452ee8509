-- The content type that a request brings (RFC 9110, section 8.3), and that it brings the whole (section 14.5).
use Rattle.std.specs.Prelude.{ℕ, Bool, true, false, ◌==◌, List, [], ◌∷◌, length, Option, Some, None, codes, if◌then◌else◌}
use Rattle.rs_path.specs.Kinds.{is_kind}
use Rattle.rs_scope.specs.declared.method.Method.{Method}
use Rattle.rs_scope.specs.declared.method.Method.TheVariants.{Get, Head, Put, Delete}

-- the content type of a document that is sent without one (RFC 9110, section 8.3)
abbrev pub octet_stream : List ℕ
octet_stream = codes "application/octet-stream"

-- the content type that a text is, if it is one; an empty one is none that is sent
abbrev pub kind_of_text : List ℕ → Option (List ℕ)
kind_of_text text = if length text == 0 then Some octet_stream else (if is_kind text then Some text else None)

-- the content type that a PUT with such fields brings
abbrev pub put_kind : List (List ℕ) → Option (List ℕ)
put_kind [] = Some octet_stream
put_kind (value ∷ []) = kind_of_text value
put_kind (value ∷ other ∷ values) = None

-- the same of any method: only a PUT brings one
abbrev pub kind_of : Method → List (List ℕ) → Option (List ℕ)
kind_of Get values = Some octet_stream
kind_of Head values = Some octet_stream
kind_of Put values = put_kind values
kind_of Delete values = Some octet_stream

-- a request with such Content-Range fields brings a part, which only a PUT could: a part would be taken for the whole
abbrev pub is_part : Method → List (List ℕ) → Bool
is_part Put [] = false
is_part Put (value ∷ values) = true
is_part Get values = false
is_part Head values = false
is_part Delete values = false
