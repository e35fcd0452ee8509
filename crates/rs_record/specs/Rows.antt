-- The row that keeps a record: its spelling. Numbers are big-endian.
use Rattle.std.specs.Prelude.{ℕ, List, ◌∷◌, ◌++◌, Some, None}
use Rattle.sha2.specs.Sha256.{sha256}
use Rattle.rs_path.specs.Paths.{Path, plain_text}
use Rattle.rs_scope.specs.Scopes.{scopes_text}
use Rattle.rs_row.specs.RowTexts.{behind_1, behind_2, behind_4}
use Rattle.rs_record.specs.declared.records.Record.{Record}
use Rattle.rs_record.specs.declared.records.Record.TheVariants.{Put, Remove, Grant, Revoke}

-- a document's path, content type and body
abbrev pub document_fields : Path → List ℕ → List ℕ → List ℕ
document_fields path kind body = behind_2 (plain_text path) ++ (behind_1 kind ++ behind_4 body)

-- format 1 where there is no writer, and for grants and revocations; format 2 with a writer, where a body has its digest
abbrev pub spelling : Record → List ℕ
spelling (Put path kind body None) = 1 ∷ 1 ∷ document_fields path kind body
spelling (Put path kind body (Some writer)) = 2 ∷ 1 ∷ (writer ++ (sha256 body ++ document_fields path kind body))
spelling (Remove path None) = 1 ∷ 2 ∷ behind_2 (plain_text path)
spelling (Remove path (Some writer)) = 2 ∷ 2 ∷ (writer ++ behind_2 (plain_text path))
spelling (Grant token scopes) = 1 ∷ 3 ∷ (token ++ behind_2 (scopes_text scopes))
spelling (Revoke token) = 1 ∷ 4 ∷ token
