-- What became of a change: it waits still, or an event of the journal has ended it.
use Rattle.std.specs.Prelude.{◌≡◌, ◌⊎◌, true, false, List, ◌∷◌, ◌++◌, Some}
use Rattle.rs_path.specs.Paths.{Path}
use Rattle.rs_talk.specs.declared.change.Change.{Change}
use Rattle.rs_cache.specs.declared.conflict.Conflict.{Conflict}
use Rattle.rs_cache.specs.declared.event.Event.{Event}
use Rattle.rs_cache.specs.States.{State, change_at, record_in}
use Rattle.rs_cache.specs.Effects.{change_by, after_event}
use Rattle.rs_cache.specs.LastEvents.{none_such, makes_change, ends_change, resolves, is_conflict}
use Rattle.rs_cache.specs.Journals.{after_events, state_of}

-- the change of the path is in a conflict's record, which the event left behind this state; the record stands after the
-- events that followed, or one of them resolves it
pub record IsRecorded (s : State) (event : Event) (path : Path) (change : Change) (later : List Event) : Type 0 where
  pub conflict : Conflict
  pub made : record_in conflict.n (after_event event s).records ≡ Some conflict
  pub there : conflict.path ≡ path
  pub local : conflict.local ≡ change
  pub since : (record_in conflict.n (after_events (after_event event s) later).records ≡ Some conflict)
      ⊎ (none_such (resolves conflict.n) (after_event event s) later ≡ false)

-- an event after this state ended the change, which waited until then, and was recorded where the event is a conflict
pub record HasEnded (s : State) (path : Path) (change : Change) (events : List Event) : Type 0 where
  pub early : List Event
  pub event : Event
  pub late : List Event
  pub split : events ≡ early ++ event ∷ late
  pub ends : ends_change path (after_events s early) event ≡ true
  pub waited : change_at (after_events s early) path ≡ Some change
  pub recorded : is_conflict event ≡ true → IsRecorded (after_events s early) event path change late

-- the change that an event made of a path, and that no later event replaced, waits in the end or has ended
abbrev pub HasFate : List Event → Event → List Event → Path → Change → Type 0
HasFate past event rest path change =
    change_by (state_of past) event ≡ Some (record { path = path; change = change })
    → none_such (makes_change path) (after_event event (state_of past)) rest ≡ true
    → (change_at (state_of (past ++ event ∷ rest)) path ≡ Some change)
    ⊎ HasEnded (after_event event (state_of past)) path change rest
