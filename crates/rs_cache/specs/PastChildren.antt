-- A path behind all that is below a child of a folder.
use Rattle.std.specs.Prelude.{◌≡◌, ◌+◌, ◌<◌, ℕ, true, List, [], ◌∷◌, ◌++◌, length, get_or}
use Rattle.rs_path.specs.Paths.{Path, is_path, document_at}

-- the path goes on behind the folder's child with at least one name more, and this is the document in the folder whose
-- name is the child's and `0`
pub record IsPastChild (folder path past : Path) : Type 0 where
  pub deep : length folder.names + 1 < length path.names
  pub at : (d : List ℕ) → past ≡ document_at (folder.names ++ (get_or path.names (length folder.names) d ++ 48 ∷ []) ∷ [])
  pub named : is_path past ≡ true
