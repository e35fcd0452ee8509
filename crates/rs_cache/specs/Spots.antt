-- Places in ordered maps that are made before they are needed.
use Rattle.std.specs.Prelude.{◌≡◌, Bool, true, List, [], ◌∷◌, Option, Some, None, is_some, if◌then◌else◌}
use Rattle.std.specs.BTreeMap.{is_at}
use Rattle.std.specs.Map.{remove_entry}
use Rattle.rs_path.specs.Paths.{Path, path_cmp}
use Rattle.rs_cache.specs.declared.spot.Spot.{Spot}
use Rattle.rs_cache.specs.Entries.{at_path, put_at, clear_at}

module _ {X : Type 0} where
  -- a new path has the value at once
  abbrev pub with_spot : Path → X → List (Path × X) → List (Path × X)
  with_spot path value entries = if is_some (at_path path entries) then entries else put_at path value entries

  -- the value that is still to be put
  abbrev pub put_left : Path → Option X → List (Path × X) → List (Path × X)
  put_left path None entries = entries
  put_left path (Some value) entries = put_at path value entries

  abbrev pub put_spot : Spot X → List (Path × X) → List (Path × X)
  put_spot spot entries = put_left spot.path spot.value entries

  -- the value that was put is taken away again
  abbrev pub undone_by : Path → Option X → List (Path × X) → List (Path × X)
  undone_by path None entries = remove_entry (is_at (path_cmp path)) entries
  undone_by path (Some value) entries = entries

  abbrev pub undone : Spot X → List (Path × X) → List (Path × X)
  undone spot entries = undone_by spot.path spot.value entries

  -- the place is one for the value at the path, over these entries
  pub record IsSpot (spot : Spot X) (path : Path) (value : X) (entries : List (Path × X)) : Type 0 where
    pub there : spot.path ≡ path
    pub left : spot.value ≡ (if is_some (at_path path entries) then Some value else None)

  -- the place has its value, or there is a value to be replaced
  abbrev pub is_open : Spot X → List (Path × X) → Bool
  is_open spot entries = if is_some spot.value then is_some (at_path spot.path entries) else true

  -- the values at these paths taken away
  abbrev pub cleared : List Path → List (Path × X) → List (Path × X)
  cleared [] entries = entries
  cleared (path ∷ paths) entries = cleared paths (clear_at path entries)
