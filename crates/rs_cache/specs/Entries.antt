-- Values by path, as an ordered map lists them.
use Rattle.std.specs.Prelude.{not, List, Option, Some, None, filter}
use Rattle.std.specs.BTreeMap.{is_at, insert_entry}
use Rattle.std.specs.Map.{lookup}
use Rattle.rs_path.specs.Paths.{Path, same_path, path_cmp}
use Rattle.rs_path.specs.Below.{is_below}

module _ {X : Type 0} where
  -- the value at the path
  abbrev pub at_path : Path → List (Path × X) → Option X
  at_path path entries = lookup (is_at (path_cmp path)) entries

  -- with this value at the path
  abbrev pub put_at : Path → X → List (Path × X) → List (Path × X)
  put_at path value entries = insert_entry path_cmp entries path value

  -- with nothing at the path
  abbrev pub clear_at : Path → List (Path × X) → List (Path × X)
  clear_at path entries = filter (λ (e : Path × X). not (same_path path e.0)) entries

  -- with nothing at the folders that the path is below
  abbrev pub clear_above : Path → List (Path × X) → List (Path × X)
  clear_above path entries = filter (λ (e : Path × X). not (is_below e.0 path)) entries

  -- with this value at the path, or with none
  abbrev pub set_at : Path → Option X → List (Path × X) → List (Path × X)
  set_at path None entries = clear_at path entries
  set_at path (Some value) entries = put_at path value entries
