-- What a call that notes an event has done: the event and its row, or nothing for the first cause that applies.
use Rattle.std.specs.Prelude.{◌≡◌, ℕ, true, List, Option, Some, None, Result, Ok, Err}
use Rattle.rs_face.specs.Courses.{Course, HasFailed, IsSame}
use Rattle.rs_face.specs.Rows.{with_row}
use Rattle.rs_face.specs.declared.keeper.KeepFault.{KeepFault}
use Rattle.rs_face.specs.declared.keeper.KeepFault.TheVariants.{Failed, NoMemory as NoMemoryToKeep}
use Rattle.rs_cache.specs.declared.cache_fault.CacheFault.{CacheFault}
use Rattle.rs_cache.specs.declared.cache_fault.CacheFault.TheVariants.{KeeperFailed, NoMemory}
use Rattle.rs_cache.specs.declared.event.Event.{Event}
use Rattle.rs_cache.specs.States.{State}
use Rattle.rs_cache.specs.Effects.{after_event}
use Rattle.rs_cache.specs.Places.{may_come}
use Rattle.rs_cache.specs.EventRows.{event_row}
use Rattle.rs_cache.specs.EventReadings.{event_reading}

-- what is told where the row wasn't kept
abbrev pub fault_of_keeping : KeepFault → CacheFault
fault_of_keeping Failed = KeeperFailed
fault_of_keeping NoMemoryToKeep = NoMemory

-- the event was noted: it may come there, the state is the one after it, and the told rows have its row, which is read back
-- as the event, behind the others
pub record IsNoted (event : Event) (s now : State) (rows : Course (List (List ℕ))) : Type 0 where
  pub may : may_come s event ≡ true
  pub state : now ≡ after_event event s
  pub row : rows.new ≡ with_row rows.old (event_row event)
  pub back : event_reading (event_row event) ≡ Ok (Some event)

-- nothing was noted: state and rows are as before
pub record NotNoted (s now : State) (rows : Course (List (List ℕ))) : Type 0 where
  pub state : now ≡ s
  pub same : IsSame rows

-- what a call that was to note the event has done, where this is what it is refused for
abbrev pub Notes : Option CacheFault → Event → State → State → Course (List (List ℕ)) → Result (Unit {0}) CacheFault → Type 0
Notes refusal event s now rows (Ok done) = (refusal ≡ None) × IsNoted event s now rows
Notes refusal event s now rows (Err NoMemory) = NotNoted s now rows
Notes refusal event s now rows (Err KeeperFailed) = (refusal ≡ None) × HasFailed rows × NotNoted s now rows
Notes refusal event s now rows (Err fault) = (refusal ≡ Some fault) × NotNoted s now rows
