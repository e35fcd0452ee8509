-- What a call that notes an event has done.
use Rattle.std.proofs.Common.{◌≡◌, ℕ, ◌+◌, ◌<◌, ◌≤◌, Bool, true, false, cond, nat_le, List, Option, Some, None, Result, Ok, Err, arith, refl, sym, ap, ◌∙◌, subst}
use Rattle.std.specs.Option.{option_or}
use Rattle.std.proofs.lemmas.Bool.{cond-true, cond-false}
use Rattle.std.proofs.lemmas.Bool.Decides.{nat_tests}
use Rattle.rs_face.specs.Courses.{Course, HasFailed, IsSame}
use Rattle.rs_face.specs.Rows.{with_row}
use Rattle.rs_face.specs.declared.keeper.KeepFault.{KeepFault}
use Rattle.rs_face.specs.declared.keeper.KeepFault.TheVariants.{Failed, NoMemory as NoMemoryToKeep}
use Rattle.rs_path.specs.Paths.{Path}
use Rattle.rs_cache.specs.declared.applying.Ready.{Ready}
use Rattle.rs_cache.specs.declared.cache_fault.CacheFault.{CacheFault}
use Rattle.rs_cache.specs.declared.cache_fault.CacheFault.TheVariants.{JournalFull}
use Rattle.rs_cache.specs.declared.event.Event.{Event}
use Rattle.rs_cache.specs.declared.event.Event.TheVariants.{Connect, Edit, Sent, Accepted, Absorbed, Held, Conflict as ConflictMade, Pulled, Gone, Settled, Unsettled, Resolved}
use Rattle.rs_cache.specs.declared.pending.Pending.{Pending}
use Rattle.rs_cache.specs.States.{State, pending_at, drop_record}
use Rattle.rs_cache.specs.Effects.{Edited, held_with, with_change, resolved_by, effect, after_event}
use Rattle.rs_cache.specs.EventReadings.{event_reading}
use Rattle.rs_cache.specs.EventRows.{event_row}
use Rattle.rs_cache.specs.Readiness.{finished, taken_back, IsPreparedFor}
use Rattle.rs_cache.specs.Places.{may_come}
use Rattle.rs_cache.specs.Refusals.{full_refusal}
use Rattle.rs_cache.specs.Noting.{fault_of_keeping, IsNoted, NotNoted, Notes}

-- ---- rows

held_rows : (status : ℕ) (o : Option Pending) (s : State) (path : Path) → (held_with status path o s).rows ≡ s.rows
held_rows status None s path = refl
held_rows status (Some pending) s path = refl

change_rows : (o : Option Edited) (s : State) → (with_change o s).rows ≡ s.rows
change_rows None s = refl
change_rows (Some edited) s = refl

effect-rows : (s : State) (e : Event) → (effect e s).rows ≡ s.rows
effect-rows s (Connect root token scopes) = refl
effect-rows s (Edit path change) = refl
effect-rows s (Sent path) = refl
effect-rows s (Accepted path tag) = refl
effect-rows s (Absorbed path tag) = refl
effect-rows s (Held path status) = held_rows status (pending_at s path) s path
effect-rows s (ConflictMade path remote) = refl
effect-rows s (Pulled path base) = refl
effect-rows s (Gone path) = refl
effect-rows s (Settled path tag) = refl
effect-rows s (Unsettled path) = refl
effect-rows s (Resolved n how) = change_rows (resolved_by s how n) (record s { records = drop_record n s.records })

-- an event is one row more
pub after-rows : (s : State) (e : Event) → (after_event e s).rows ≡ s.rows + 1
after-rows s e = ap (λ n. n + 1) (effect-rows s e)

-- ---- refusals

pub not-full : (s : State) → s.rows < 4294967295 → full_refusal s ≡ None
not-full s room = let more : nat_le 4294967295 s.rows ≡ false = grind (arith, nat_tests, room) in cond-false _ _ _ more

pub is-full : (s : State) → 4294967295 ≤ s.rows → full_refusal s ≡ Some JournalFull
is-full s full = let enough : nat_le 4294967295 s.rows ≡ true = grind (arith, nat_tests, full) in cond-true _ _ _ enough

-- what isn't refused for a first cause is refused for a later one, or done
pub notes-behind : (first later : Option CacheFault) (e : Event) (s now : State) (rows : Course (List (List ℕ))) (result : Result (Unit {0}) CacheFault)
    → first ≡ None → Notes later e s now rows result → Notes (option_or first later) e s now rows result
notes-behind first later e s now rows result none notes = subst (λ (f : Option CacheFault). Notes (option_or f later) e s now rows result) (sym none) notes

-- ---- rows kept or not

-- the row was kept
pub kept-notes : (e : Event) (s now prepared : State) (ready : Ready) (row : List ℕ) (rows : Course (List (List ℕ))) → s.rows < 4294967295
    → IsPreparedFor e s prepared ready → now ≡ finished ready prepared → rows.new ≡ with_row rows.old row → row ≡ event_row e
    → event_reading (event_row e) ≡ Ok (Some e) → may_come s e ≡ true → Notes (full_refusal s) e s now rows (Ok tt)
kept-notes e s now prepared ready row rows room is done kept spelled back may = (
  not-full s room,
  record {
    may = may;
    state = done ∙ is.done;
    row = kept ∙ ap (with_row rows.old) spelled;
    back = back;
  },
)

-- the row wasn't kept
pub lost-notes : (e : Event) (s now prepared : State) (ready : Ready) (fault : KeepFault) (rows : Course (List (List ℕ))) → s.rows < 4294967295
    → IsPreparedFor e s prepared ready → now ≡ taken_back ready prepared → IsSame rows → (fault ≡ Failed → HasFailed rows)
    → Notes (full_refusal s) e s now rows (Err (fault_of_keeping fault))
lost-notes e s now prepared ready Failed rows room is undone same failed =
    (not-full s room, failed refl, record { state = undone ∙ is.back; same = same })
lost-notes e s now prepared ready NoMemoryToKeep rows room is undone same failed = record { state = undone ∙ is.back; same = same }
