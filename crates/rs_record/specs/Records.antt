-- Records, and which of them have a spelling.
use Rattle.std.specs.Prelude.{ℕ, Bool, true, not, ◌&&◌, nat_le, List, length, Option, Some, None}
use Rattle.rs_path.specs.Kinds.{is_kind}
use Rattle.rs_path.specs.Limits.{max_body, max_plain_body}
use Rattle.rs_path.specs.Paths.{Path, is_path}
use Rattle.rs_scope.specs.Scopes.{is_scopes}
use Rattle.rs_scope.specs.Tokens.{is_token}
use Rattle.rs_record.specs.declared.records.Record.{Record}
use Rattle.rs_record.specs.declared.records.Record.TheVariants.{Put, Remove, Grant, Revoke}

-- the greatest number of bytes of the body of a Put, without a writer and with one
abbrev pub body_limit : Option (List ℕ) → ℕ
body_limit None = max_plain_body
body_limit (Some writer) = max_body

-- the path of a document
abbrev pub is_document : Path → Bool
is_document path = not path.folder

-- a Put or Remove is of a document, and a body is within its limit
abbrev pub is_writable : Record → Bool
is_writable (Put path kind body writer) = is_document path && nat_le (length body) (body_limit writer)
is_writable (Remove path writer) = is_document path
is_writable (Grant token scopes) = true
is_writable (Revoke token) = true

-- no writer, or a token
abbrev pub is_writer : Option (List ℕ) → Bool
is_writer None = true
is_writer (Some writer) = is_token writer

-- each part is one, as it is of every record of the program
abbrev pub has_parts : Record → Bool
has_parts (Put path kind body writer) = is_path path && is_kind kind && is_writer writer
has_parts (Remove path writer) = is_path path && is_writer writer
has_parts (Grant token scopes) = is_token token && is_scopes scopes
has_parts (Revoke token) = is_token token

-- a record that has a spelling
abbrev pub is_record : Record → Bool
is_record it = has_parts it && is_writable it
