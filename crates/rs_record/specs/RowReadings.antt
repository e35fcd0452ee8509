-- How a row is read: the record, or the place of its fault, as `RowFields` of rs_row has it of fields. A digest is judged
-- last.
use Rattle.std.specs.Prelude.{ℕ, ◌==◌, List, [], ◌∷◌, Option, Some, None, Result, Ok, Err, if◌then◌else◌}
use Rattle.std.specs.Str.{bytes_eq}
use Rattle.sha2.specs.Sha256.{sha256}
use Rattle.rs_path.specs.Paths.{Path}
use Rattle.rs_row.specs.declared.row_fault.RowFault.{RowFault}
use Rattle.rs_row.specs.declared.row_fault.RowFault.TheVariants.{Bad}
use Rattle.rs_row.specs.RowFields.{◌>>>◌, document_meant, kind_meant, scopes_meant, fixed_in, meant_1_in, meant_2_in, body_in, whole, ReadsRow}
use Rattle.rs_record.specs.declared.records.Record.{Record}
use Rattle.rs_record.specs.declared.records.Record.TheVariants.{Put, Remove, Grant, Revoke}
use Rattle.rs_record.specs.Records.{body_limit}

-- a document's path, content type and body
pub record Document : Type 0 where
  pub path : Path
  pub kind : List ℕ
  pub body : List ℕ

-- a document, and nothing behind it
abbrev pub document_reading_at : ℕ → ℕ → List ℕ → Result Document RowFault
document_reading_at limit place row =
    meant_2_in document_meant place row
    >>> (λ path. meant_1_in kind_meant path.place path.rest
    >>> (λ kind. body_in limit kind.place kind.rest
    >>> (λ body. whole body.place body.rest (record { path = path.value; kind = kind.value; body = body.value }))))

-- the record of a document that was put
abbrev pub put_of : Document → Option (List ℕ) → Record
put_of document writer = Put document.path document.kind document.body writer

abbrev pub put_reading : List ℕ → Result Record RowFault
put_reading row = document_reading_at (body_limit None) 2 row >>> (λ document. Ok (put_of document None))

abbrev pub remove_reading : Option (List ℕ) → ℕ → List ℕ → Result Record RowFault
remove_reading writer place row =
    meant_2_in document_meant place row >>> (λ path. whole path.place path.rest (Remove path.value writer))

abbrev pub grant_reading : List ℕ → Result Record RowFault
grant_reading row =
    fixed_in 16 2 row
    >>> (λ token. meant_2_in scopes_meant token.place token.rest
    >>> (λ scopes. whole scopes.place scopes.rest (Grant token.value scopes.value)))

abbrev pub revoke_reading : List ℕ → Result Record RowFault
revoke_reading row = fixed_in 16 2 row >>> (λ token. whole token.place token.rest (Revoke token.value))

-- the digest is judged last, at its place
abbrev pub digested : List ℕ → Document → List ℕ → Result Record RowFault
digested digest document writer =
    if bytes_eq digest (sha256 document.body) then Ok (put_of document (Some writer)) else Err (Bad 18)

abbrev pub written_put_reading : List ℕ → Result Record RowFault
written_put_reading row =
    fixed_in 16 2 row
    >>> (λ writer. fixed_in 32 writer.place writer.rest
    >>> (λ digest. document_reading_at (body_limit (Some writer.value)) digest.place digest.rest
    >>> (λ document. digested digest.value document writer.value)))

abbrev pub written_remove_reading : List ℕ → Result Record RowFault
written_remove_reading row =
    fixed_in 16 2 row >>> (λ writer. remove_reading (Some writer.value) writer.place writer.rest)

-- what is left from byte 2 on, by byte 1
abbrev pub first_format : List ℕ → Result Record RowFault
first_format [] = Err (Bad 1)
first_format (kind ∷ row) = if kind == 1 then put_reading row
    else if kind == 2 then remove_reading None 2 row
    else if kind == 3 then grant_reading row
    else if kind == 4 then revoke_reading row
    else Err (Bad 1)

abbrev pub second_format : List ℕ → Result Record RowFault
second_format [] = Err (Bad 1)
second_format (kind ∷ row) = if kind == 1 then written_put_reading row
    else if kind == 2 then written_remove_reading row
    else Err (Bad 1)

-- the record that a row keeps, by byte 0
abbrev pub record_reading : List ℕ → Result Record RowFault
record_reading [] = Err (Bad 0)
record_reading (format ∷ row) = if format == 1 then first_format row
    else if format == 2 then second_format row
    else Err (Bad 0)

-- the call read this record, or memory ran out
abbrev pub ReadsAsRecord : Result Record RowFault → Result Record RowFault → Type 0
ReadsAsRecord result wanted = ReadsRow result wanted
