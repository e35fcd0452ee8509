-- What an event is about to do to a client, once all its memory is there: what is left to be done, and how what was made
-- is taken back.
use Rattle.std.specs.Prelude.{◌≡◌, ◌+◌, ◌-◌, Bool, true, List, [], ◌∷◌, ◌++◌, length, take, Option, Some, None, is_some, if◌then◌else◌}
use Rattle.rs_path.specs.Paths.{Path}
use Rattle.std.specs.List.{list_any}
use Rattle.rs_talk.specs.declared.base.Base.{Base}
use Rattle.rs_talk.specs.declared.change.Change.{Change}
use Rattle.rs_talk.specs.Changes.{same_change}
use Rattle.rs_cache.specs.declared.applying.Ready.{Ready}
use Rattle.rs_cache.specs.declared.applying.Ready.TheVariants.{Connection as ToConnect, Pending as ToWait, Nothing, Doubt, Base as ToBase, Conflict as ToConflict, Kept, Unkept, Resolved as ToResolve}
use Rattle.rs_cache.specs.declared.applying.ReadyBase.{ReadyBase}
use Rattle.rs_cache.specs.declared.conflict.Conflict.{Conflict}
use Rattle.rs_cache.specs.declared.event.Event.{Event}
use Rattle.rs_cache.specs.declared.pending.Pending.{Pending}
use Rattle.rs_cache.specs.declared.spot.Spot.{Spot}
use Rattle.rs_cache.specs.Entries.{put_at, clear_at}
use Rattle.rs_cache.specs.States.{State, drop_record}
use Rattle.rs_cache.specs.Effects.{without_pending, with_base, counted, effect}
use Rattle.rs_cache.specs.Spots.{put_spot, undone, is_open, cleared}

-- ---- what is made ready

-- the doubts and the change that waits, None where none does or it is among them
abbrev pub more_doubts : Option Pending → List Change → Option (List Change)
more_doubts None doubts = None
more_doubts (Some pending) doubts = if list_any (same_change pending.change) doubts then None else Some (doubts ++ pending.change ∷ [])

-- ---- what is left to be done

abbrev pub base_left : Path → Option (Spot Base) → List (Path × Base) → List (Path × Base)
base_left path None entries = clear_at path entries
base_left path (Some spot) entries = put_spot spot entries

abbrev pub finished_base : ReadyBase → State → State
finished_base ready s = record s {
  base = base_left ready.path ready.spot s.base;
  doubts = clear_at ready.path s.doubts;
  kept = cleared ready.folders.items s.kept;
  pending = if ready.ends then clear_at ready.path s.pending else s.pending;
}

abbrev pub with_pending_left : Option (Spot Pending) → State → State
with_pending_left None s = s
with_pending_left (Some spot) s = record s { pending = put_spot spot s.pending }

abbrev pub finished_by : Ready → State → State
finished_by (ToConnect connection) s = record s { connection = Some connection }
finished_by (ToWait spot) s = record s { pending = put_spot spot s.pending }
finished_by Nothing s = s
finished_by (Doubt spot) s = record s { doubts = put_spot spot s.doubts }
finished_by (ToBase base) s = finished_base base s
finished_by (ToConflict base) s = record (finished_base base s) { made = s.made + 1 }
finished_by (Kept spot) s = record s { kept = put_spot spot s.kept }
finished_by (Unkept path) s = record s { kept = clear_at path s.kept }
finished_by (ToResolve n spot) s = with_pending_left spot (record s { records = drop_record n s.records })

-- the event done and counted
abbrev pub finished : Ready → State → State
finished ready s = finished_by ready (counted s)

-- ---- what is taken back

abbrev pub base_back : Option (Spot Base) → List (Path × Base) → List (Path × Base)
base_back None entries = entries
base_back (Some spot) entries = undone spot entries

abbrev pub with_pending_back : Option (Spot Pending) → State → State
with_pending_back None s = s
with_pending_back (Some spot) s = record s { pending = undone spot s.pending }

abbrev pub base_taken_back : ReadyBase → State → State
base_taken_back ready s = record s { base = base_back ready.spot s.base }

-- all but the last
abbrev pub but_last : List Conflict → List Conflict
but_last records = take (length records - 1) records

abbrev pub taken_back : Ready → State → State
taken_back (ToWait spot) s = record s { pending = undone spot s.pending }
taken_back (Doubt spot) s = record s { doubts = undone spot s.doubts }
taken_back (ToBase base) s = base_taken_back base s
taken_back (ToConflict base) s = record (base_taken_back base s) { records = but_last s.records }
taken_back (Kept spot) s = record s { kept = undone spot s.kept }
taken_back (ToResolve n spot) s = with_pending_back spot s
taken_back ready s = s

-- ---- places that are there

abbrev pub is_open_if : {X : Type 0} → Option (Spot X) → List (Path × X) → Bool
is_open_if None entries = true
is_open_if (Some spot) entries = is_open spot entries

-- all that is left to be done finds its place
abbrev pub finds_place : Ready → State → Bool
finds_place (ToWait spot) s = is_open spot s.pending
finds_place (Doubt spot) s = is_open spot s.doubts
finds_place (ToBase base) s = is_open_if base.spot s.base
finds_place (ToConflict base) s = is_open_if base.spot s.base
finds_place (Kept spot) s = is_open spot s.kept
finds_place (ToResolve n spot) s = is_open_if spot s.pending
finds_place ready s = true

-- what is ready: doing what is left gives this state and one event more, taking back gives the state before
pub record IsPrepared (after s now : State) (ready : Ready) : Type 0 where
  pub done : finished ready now ≡ counted after
  pub back : taken_back ready now ≡ s
  pub place : finds_place ready now ≡ true

-- the event is ready
abbrev pub IsPreparedFor : Event → State → State → Ready → Type 0
IsPreparedFor event s now ready = IsPrepared (effect event s) s now ready

-- ---- what the parts of an event do

-- a change waits at the path, held or not
abbrev pub with_waiting : Path → Pending → State → State
with_waiting path pending s = record s { pending = put_at path pending s.pending }

-- what waits at the path ends, or stays
abbrev pub with_ended : Bool → Path → State → State
with_ended ends path s = if ends then without_pending path s else s

-- the base of the path is this, after the end of what waited
abbrev pub based : Path → Option Base → Bool → State → State
based path base ends s = with_base path base (with_ended ends path s)

-- a base that is ready
pub record IsPreparedBase (after s now : State) (ready : ReadyBase) : Type 0 where
  pub done : finished_base ready now ≡ after
  pub back : base_taken_back ready now ≡ s
  pub place : is_open_if ready.spot now.base ≡ true
