-- What each event of a journal does to the state.
use Rattle.std.specs.Prelude.{ℕ, ◌+◌, not, ◌&&◌, List, [], ◌∷◌, ◌++◌, Option, Some, None, unwrap_or, if◌then◌else◌}
use Rattle.std.specs.List.{list_any}
use Rattle.rs_path.specs.Paths.{Path}
use Rattle.rs_talk.specs.declared.base.Base.{Base}
use Rattle.rs_talk.specs.declared.change.Change.{Change}
use Rattle.rs_talk.specs.declared.change.Change.TheVariants.{Put, Remove}
use Rattle.rs_talk.specs.Changes.{same_change, is_removal}
use Rattle.rs_cache.specs.declared.conflict.Conflict.{Conflict}
use Rattle.rs_cache.specs.declared.event.Event.{Event}
use Rattle.rs_cache.specs.declared.event.Event.TheVariants.{Connect, Edit, Sent, Accepted, Absorbed, Held, Conflict as ConflictMade, Pulled, Gone, Settled, Unsettled, Resolved}
use Rattle.rs_cache.specs.declared.pending.Pending.{Pending}
use Rattle.rs_cache.specs.declared.resolve.Resolve.{Resolve}
use Rattle.rs_cache.specs.declared.resolve.Resolve.TheVariants.{Keep, Drop}
use Rattle.rs_cache.specs.Entries.{at_path, put_at, clear_at, clear_above, set_at}
use Rattle.rs_cache.specs.States.{State, pending_at, change_at, record_in, drop_record}
use Rattle.rs_cache.specs.Views.{is_viewed}

-- ---- changes

-- a change that waits, and isn't held
abbrev pub waiting : Change → Pending
waiting change = record { change = change; held = None }

-- a change that is held with the status
abbrev pub kept_back : ℕ → Change → Pending
kept_back status change = record { change = change; held = Some status }

-- the change waits at the path, and isn't held
abbrev pub with_pending : Path → Change → State → State
with_pending path change s = record s { pending = put_at path (waiting change) s.pending }

-- nothing waits at the path
abbrev pub without_pending : Path → State → State
without_pending path s = record s { pending = clear_at path s.pending }

-- the change that waits is held with the status
abbrev pub held_with : ℕ → Path → Option Pending → State → State
held_with status path None s = s
held_with status path (Some pending) s = record s { pending = put_at path (kept_back status pending.change) s.pending }

-- the changes in doubt, and the one that waits, unless it is among them
abbrev pub with_doubt : Option Pending → List Change → List Change
with_doubt None doubts = doubts
with_doubt (Some pending) doubts =
    if list_any (same_change pending.change) doubts then doubts else doubts ++ pending.change ∷ []

-- the change that waits is in doubt at the path, if one does and it isn't already
abbrev pub in_doubt : Path → Option Pending → List (Path × List Change) → List (Path × List Change)
in_doubt path None doubts = doubts
in_doubt path (Some pending) doubts =
    let before = unwrap_or (at_path path doubts) [] in
    if list_any (same_change pending.change) before then doubts else put_at path (before ++ pending.change ∷ []) doubts

-- a path and a change of it
pub record Edited : Type 0 where
  pub path : Path
  pub change : Change

-- the local change of a conflict, but a Remove where nothing is there to be removed
abbrev pub kept_of : State → Option Conflict → Option Edited
kept_of s None = None
kept_of s (Some conflict) = if is_removal conflict.local && not (is_viewed s conflict.path) then None
    else Some (record { path = conflict.path; change = conflict.local })

abbrev pub resolved_by : State → Resolve → ℕ → Option Edited
resolved_by s Keep n = kept_of s (record_in n s.records)
resolved_by s Drop n = None

-- the change that an event makes: an Edit its own, a Resolved with Keep that of its conflict
abbrev pub change_by : State → Event → Option Edited
change_by s (Edit path change) = Some (record { path = path; change = change })
change_by s (Resolved n how) = resolved_by s how n
change_by s event = None

abbrev pub with_change : Option Edited → State → State
with_change None s = s
with_change (Some edited) s = with_pending edited.path edited.change s

-- ---- bases

-- the document that a change with an entity tag has become
abbrev pub base_as : List ℕ → Change → Option Base
base_as tag (Put kind body) = Some (record { tag = tag; kind = kind; body = body })
base_as tag Remove = None

abbrev pub base_by : Option (List ℕ) → Option Pending → Option Base
base_by None pending = None
base_by (Some tag) None = None
base_by (Some tag) (Some pending) = base_as tag pending.change

-- the base of the path is this; its doubts end, and what is kept of the folders above it
abbrev pub with_base : Path → Option Base → State → State
with_base path base s = record s {
  base = set_at path base s.base;
  doubts = clear_at path s.doubts;
  kept = clear_above path s.kept;
}

-- a conflict of the change that waits at the path, a Remove where none does, with what the server has
abbrev pub conflict_at : State → Path → Option Base → Conflict
conflict_at s path remote = record {
  n = s.made + 1;
  path = path;
  local = unwrap_or (change_at s path) Remove;
  remote = remote;
}

abbrev pub with_conflict : Conflict → State → State
with_conflict conflict s = record s { records = s.records ++ conflict ∷ []; made = s.made + 1 }

-- ---- events

-- the change that waits became the base, with this tag, or was done with where there is none
abbrev pub accepted : Path → Option (List ℕ) → State → State
accepted path tag s = with_base path (base_by tag (pending_at s path)) (without_pending path s)

-- what an event does
abbrev pub effect : Event → State → State
effect (Connect root token scopes) s =
    record s { connection = Some (record { root = root; token = token; scopes = scopes }) }
effect (Edit path change) s = with_pending path change s
effect (Sent path) s = record s { doubts = in_doubt path (pending_at s path) s.doubts }
effect (Accepted path tag) s = accepted path tag s
effect (Absorbed path tag) s = accepted path tag s
effect (Held path status) s = held_with status path (pending_at s path) s
effect (ConflictMade path remote) s =
    with_base path remote (without_pending path (with_conflict (conflict_at s path remote) s))
effect (Pulled path base) s = with_base path (Some base) s
effect (Gone path) s = with_base path None s
effect (Settled path tag) s = record s { kept = put_at path tag s.kept }
effect (Unsettled path) s = record s { kept = clear_at path s.kept }
effect (Resolved n how) s =
    with_change (resolved_by s how n) (record s { records = drop_record n s.records })

-- one event more
abbrev pub counted : State → State
counted s = record s { rows = s.rows + 1 }

-- the state after an event
abbrev pub after_event : Event → State → State
after_event event s = counted (effect event s)
