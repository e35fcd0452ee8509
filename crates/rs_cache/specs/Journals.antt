-- Journals: lists of events, oldest first, and the state that they leave.
use Rattle.std.specs.Prelude.{◌≡◌, true, List, [], ◌∷◌}
use Rattle.rs_cache.specs.declared.event.Event.{Event}
use Rattle.rs_cache.specs.States.{State, no_state}
use Rattle.rs_cache.specs.Effects.{after_event}
use Rattle.rs_cache.specs.Places.{may_come}

-- the state after these events
abbrev pub after_events : State → List Event → State
after_events s [] = s
after_events s (event ∷ events) = after_events (after_event event s) events

-- the state that a journal leaves
abbrev pub state_of : List Event → State
state_of journal = after_events no_state journal

-- each event may come where it stands
abbrev pub AllCome : State → List Event → Type 0
AllCome s [] = Unit {0}
AllCome s (event ∷ events) = (may_come s event ≡ true) × AllCome (after_event event s) events

-- a list of events that a client can have noted
abbrev pub IsJournal : List Event → Type 0
IsJournal journal = AllCome no_state journal
