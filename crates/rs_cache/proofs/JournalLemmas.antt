-- What holds after more events, where each of them keeps it.
use Rattle.std.proofs.Common.{◌≡◌, Bool, true, false, not, List, [], ◌∷◌, ◌++◌, refl, ◌∙◌}
use Rattle.std.proofs.lemmas.Bool.{and_parts, not-true}
use Rattle.rs_cache.specs.declared.event.Event.{Event}
use Rattle.rs_cache.specs.States.{State, no_state}
use Rattle.rs_cache.specs.Effects.{after_event}
use Rattle.rs_cache.specs.LastEvents.{none_such}
use Rattle.rs_cache.specs.Journals.{after_events, state_of}

pub after_events-append : (s : State) (xs ys : List Event) → after_events s (xs ++ ys) ≡ after_events (after_events s xs) ys
after_events-append s [] ys = refl
after_events-append s (e ∷ es) ys = after_events-append (after_event e s) es ys

-- the state after a journal that goes on behind an event
pub state_of-split : (past rest : List Event) (e : Event) → state_of (past ++ e ∷ rest) ≡ after_events (after_event e (state_of past)) rest
state_of-split past rest e = after_events-append no_state past (e ∷ rest)

-- what holds, and what each event that isn't such keeps, holds after events of which none is such
pub after-keeps : (P : State → Type 0) (test : State → Event → Bool)
    → ((s : State) (e : Event) → test s e ≡ false → P s → P (after_event e s))
    → (s : State) (es : List Event) → none_such test s es ≡ true → P s → P (after_events s es)
after-keeps P test step s [] none holds = holds
after-keeps P test step s (e ∷ es) none holds =
    let parts = and_parts (not (test s e)) (none_such test (after_event e s) es) none in
    after-keeps P test step (after_event e s) es parts.1 (step s e (not-true (test s e) parts.0) holds)

-- what each event keeps holds after all of them
pub after-holds : (P : State → Type 0) → ((s : State) (e : Event) → P s → P (after_event e s))
    → (s : State) (es : List Event) → P s → P (after_events s es)
after-holds P step s [] holds = holds
after-holds P step s (e ∷ es) holds = after-holds P step (after_event e s) es (step s e holds)

-- what each event that isn't such leaves as it is, is as it was
pub after-same : {X : Type 0} (look : State → X) (test : State → Event → Bool)
    → ((s : State) (e : Event) → test s e ≡ false → look (after_event e s) ≡ look s)
    → (s : State) (es : List Event) → none_such test s es ≡ true → look (after_events s es) ≡ look s
after-same look test stays s [] none = refl
after-same look test stays s (e ∷ es) none =
    let parts = and_parts (not (test s e)) (none_such test (after_event e s) es) none in
    after-same look test stays (after_event e s) es parts.1 ∙ stays s e (not-true (test s e) parts.0)
