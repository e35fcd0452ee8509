-- The first documents that a client knows or shows, in the order of paths.
use Rattle.std.specs.Prelude.{Bool, true, ◌&&◌, List, [], ◌∷◌, find, Option, Some, None, if◌then◌else◌}
use Rattle.std.specs.Ordering.{is_lt}
use Rattle.std.specs.BTreeMap.Range.{is_from_start}
use Rattle.std.specs.declared.ops.Bound.{Bound}
use Rattle.rs_path.specs.Paths.{Path, path_cmp}
use Rattle.rs_path.specs.Below.{is_below}
use Rattle.rs_cache.specs.States.{State}
use Rattle.rs_cache.specs.Views.{is_viewed, known_paths}

-- the lesser of two paths, where there are any
abbrev pub lesser_path : Option Path → Option Path → Option Path
lesser_path None other = other
lesser_path (Some one) None = Some one
lesser_path (Some one) (Some other) = if is_lt (path_cmp one other) then Some one else Some other

-- the view has a document at the path, which is below the folder
abbrev pub is_shown_below : State → Path → Path → Bool
is_shown_below s folder path = is_below folder path && is_viewed s path

-- the path isn't before the start
abbrev pub is_started : Bound Path → Path → Bool
is_started start path = is_from_start path_cmp start path

-- the first path of the view below the folder, from the start on
abbrev pub first_shown : State → Path → Bound Path → Option Path
first_shown s folder start = find (λ path. is_started start path && is_shown_below s folder path) (known_paths s)
