-- Which events of a journal speak of a path, and what the last of them says.
use Rattle.std.specs.Prelude.{ℕ, Bool, true, false, not, ◌&&◌, ◌||◌, ◌==◌, List, [], ◌∷◌, Option, Some, None, if◌then◌else◌}
use Rattle.rs_path.specs.Paths.{Path, same_path}
use Rattle.rs_path.specs.Below.{is_below}
use Rattle.rs_talk.specs.declared.base.Base.{Base}
use Rattle.rs_talk.specs.declared.change.Change.{Change}
use Rattle.rs_cache.specs.declared.event.Event.{Event}
use Rattle.rs_cache.specs.declared.event.Event.TheVariants.{Sent, Accepted, Absorbed, Held, Conflict as ConflictMade, Pulled, Gone, Settled, Unsettled, Resolved}
use Rattle.rs_cache.specs.States.{State, pending_at}
use Rattle.rs_cache.specs.Effects.{Edited, change_by, base_by, with_doubt, after_event}

-- none of the events is such, each looked at with the state before it
abbrev pub none_such : (State → Event → Bool) → State → List Event → Bool
none_such test s [] = true
none_such test s (event ∷ events) = not (test s event) && none_such test (after_event event s) events

-- this path is the other one, where there is one
abbrev pub is_that_path : Path → Option Path → Bool
is_that_path path None = false
is_that_path path (Some other) = same_path path other

-- ---- bases

-- the path whose base the event says
abbrev pub base_path : Event → Option Path
base_path (Accepted path tag) = Some path
base_path (Absorbed path tag) = Some path
base_path (ConflictMade path remote) = Some path
base_path (Pulled path base) = Some path
base_path (Gone path) = Some path
base_path event = None

-- the event says the base of the path
abbrev pub says_base : Path → State → Event → Bool
says_base path s event = is_that_path path (base_path event)

-- the base that the event says, after this state
abbrev pub said_base : State → Event → Option Base
said_base s (Accepted path tag) = base_by tag (pending_at s path)
said_base s (Absorbed path tag) = base_by tag (pending_at s path)
said_base s (ConflictMade path remote) = remote
said_base s (Pulled path base) = Some base
said_base s event = None

-- ---- changes

-- the path of the change that the event makes
abbrev pub edited_path : Option Edited → Option Path
edited_path None = None
edited_path (Some edited) = Some edited.path

-- the event makes a change of the path
abbrev pub makes_change : Path → State → Event → Bool
makes_change path s event = is_that_path path (edited_path (change_by s event))

-- the path whose change the event ends
abbrev pub ended_path : Event → Option Path
ended_path (Accepted path tag) = Some path
ended_path (Absorbed path tag) = Some path
ended_path (ConflictMade path remote) = Some path
ended_path event = None

-- the event ends the change that waits at the path
abbrev pub ends_change : Path → State → Event → Bool
ends_change path s event = is_that_path path (ended_path event)

-- the event makes a change of the path or ends one
abbrev pub moves_change : Path → State → Event → Bool
moves_change path s event = makes_change path s event || ends_change path s event

-- the event holds the change at the path
abbrev pub holds_change : Path → State → Event → Bool
holds_change path s (Held at status) = same_path path at
holds_change path s event = false

-- the event makes, ends or holds a change of the path
abbrev pub touches_change : Path → State → Event → Bool
touches_change path s event = holds_change path s event || moves_change path s event

-- the event sends what waits at the path
abbrev pub sends_change : Path → Event → Bool
sends_change path (Sent at) = same_path path at
sends_change path event = false

-- the doubts, and the changes that were sent of the path in the events, each once
abbrev pub doubts_with : Path → List Change → State → List Event → List Change
doubts_with path doubts s [] = doubts
doubts_with path doubts s (event ∷ events) = doubts_with path
    (if sends_change path event then with_doubt (pending_at s path) doubts else doubts) (after_event event s) events

-- ---- folders

-- the folder that a round has looked at
abbrev pub settled_path : Event → Option Path
settled_path (Settled path tag) = Some path
settled_path (Unsettled path) = Some path
settled_path event = None

-- the tag that it is kept with
abbrev pub said_tag : Event → Option (List ℕ)
said_tag (Settled path tag) = Some tag
said_tag event = None

-- the event is a Settled or Unsettled of the folder
abbrev pub says_kept : Path → State → Event → Bool
says_kept folder s event = is_that_path folder (settled_path event)

-- the path, where there is one, is below the folder
abbrev pub is_some_below : Path → Option Path → Bool
is_some_below folder None = false
is_some_below folder (Some path) = is_below folder path

-- the event says a base below the folder
abbrev pub says_below : Path → State → Event → Bool
says_below folder s event = is_some_below folder (base_path event)

-- the event says the folder's tag, or a base below it
abbrev pub moves_kept : Path → State → Event → Bool
moves_kept folder s event = says_below folder s event || says_kept folder s event

-- ---- conflicts

-- the event resolves the conflict with the number
abbrev pub resolves : ℕ → State → Event → Bool
resolves n s (Resolved m how) = m == n
resolves n s event = false

-- the event makes a conflict
abbrev pub is_conflict : Event → Bool
is_conflict (ConflictMade path remote) = true
is_conflict event = false
