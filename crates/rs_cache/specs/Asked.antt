-- What a client tells of its state.
use Rattle.std.specs.Prelude.{ℕ, Bool, List, not, ◌&&◌, length, map, find, count_by, Option, Some, None, is_some, if◌then◌else◌}
use Rattle.std.specs.List.{list_any}
use Rattle.std.specs.Ordering.{is_lt}
use Rattle.std.specs.Map.{keys_of}
use Rattle.std.specs.declared.ops.Bound.{Bound}
use Rattle.std.specs.declared.ops.Bound.TheVariants.{Excluded, Unbounded}
use Rattle.rs_path.specs.declared.child.Child.{Child}
use Rattle.rs_path.specs.Paths.{Path, path_cmp}
use Rattle.rs_path.specs.Below.{is_below}
use Rattle.rs_talk.specs.declared.base.Base.{Base}
use Rattle.rs_talk.specs.declared.change.Change.{Change}
use Rattle.rs_talk.specs.declared.change.Change.TheVariants.{Put, Remove}
use Rattle.rs_cache.specs.declared.pending.Pending.{Pending}
use Rattle.rs_cache.specs.declared.summary.Summary.{Summary}
use Rattle.rs_cache.specs.States.{State, pending_at, doubts_at}
use Rattle.rs_cache.specs.Places.{waits_for}
use Rattle.rs_cache.specs.Firsts.{is_started}

-- the change, where it is a Put
abbrev pub put_only : Change → Option Change
put_only (Put kind body) = Some (Put kind body)
put_only Remove = None

-- some doubt of the path isn't the change that waits there
abbrev pub has_other_doubt : State → Path → Bool
has_other_doubt s path = list_any (λ doubt. not (waits_for doubt (pending_at s path))) (doubts_at s path)

-- behind this path, or from the first on
abbrev pub from_after : Option Path → Bound Path
from_after None = Unbounded
from_after (Some path) = Excluded path

-- the first path with a change that comes behind this one
abbrev pub next_pending_of : State → Option Path → Option Path
next_pending_of s after = find (is_started (from_after after)) (keys_of s.pending)

-- the first path with a base below the folder that comes behind this one
abbrev pub next_base_of : State → Path → Option Path → Option Path
next_base_of s folder after = find (λ path. is_below folder path && is_started (from_after after) path) (keys_of s.base)

-- the greater of a folder and a path, where there is one
abbrev pub later_path : Path → Option Path → Path
later_path folder None = folder
later_path folder (Some after) = if is_lt (path_cmp folder after) then after else folder

-- a change that is held
abbrev pub is_held_change : Pending → Bool
is_held_change pending = is_some pending.held

-- documents in the base, changes that wait and that are held, conflicts
abbrev pub summary_of : State → Summary
summary_of s = record {
  documents = length s.base;
  pending = length s.pending;
  held = count_by is_held_change (map (λ (e : Path × Pending). e.1) s.pending);
  conflicts = length s.records;
}

-- the children that a list names
abbrev pub children_of : List (List ℕ × Bool) → List Child
children_of names = map (λ (n : List ℕ × Bool). record { name = n.0; folder = n.1 }) names
