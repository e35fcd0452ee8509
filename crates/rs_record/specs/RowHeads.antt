-- A row in two parts: its head and, of a document, its body.
use Rattle.std.specs.Prelude.{ℕ, List, [], ◌∷◌, ◌++◌, length, Option, Some, None}
use Rattle.std.specs.Int.{w32, to_be_bytes}
use Rattle.sha2.specs.Sha256.{sha256}
use Rattle.rs_path.specs.Paths.{Path, plain_text}
use Rattle.rs_scope.specs.Scopes.{scopes_text}
use Rattle.rs_row.specs.RowTexts.{behind_1, behind_2}
use Rattle.rs_record.specs.declared.records.Record.{Record}
use Rattle.rs_record.specs.declared.records.Record.TheVariants.{Put, Remove, Grant, Revoke}

-- what comes before the path of a document that was put
abbrev pub put_start : Option (List ℕ) → List ℕ → List ℕ
put_start None body = 1 ∷ 1 ∷ []
put_start (Some writer) body = 2 ∷ 1 ∷ (writer ++ sha256 body)

-- what comes before the path of a document that was removed
abbrev pub remove_start : Option (List ℕ) → List ℕ
remove_start None = 1 ∷ 2 ∷ []
remove_start (Some writer) = 2 ∷ 2 ∷ writer

-- path, content type and the length of the body
abbrev pub document_head : Path → List ℕ → List ℕ → List ℕ
document_head path kind body = behind_2 (plain_text path) ++ (behind_1 kind ++ to_be_bytes w32 (length body))

abbrev pub row_head : Record → List ℕ
row_head (Put path kind body writer) = put_start writer body ++ document_head path kind body
row_head (Remove path writer) = remove_start writer ++ behind_2 (plain_text path)
row_head (Grant token scopes) = 1 ∷ 3 ∷ (token ++ behind_2 (scopes_text scopes))
row_head (Revoke token) = 1 ∷ 4 ∷ token

abbrev pub row_body : Record → List ℕ
row_body (Put path kind body writer) = body
row_body (Remove path writer) = []
row_body (Grant token scopes) = []
row_body (Revoke token) = []
