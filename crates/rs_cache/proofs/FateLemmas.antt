-- No change vanishes: it waits, or an event has ended it.
use Rattle.std.proofs.Common.{◌≡◌, ◌⊎◌, true, false, not, List, [], ◌∷◌, Some, Option, refl, sym, ap, ◌∙◌, ⊎_elim, inl, inr, unwrap_or}
use Rattle.std.proofs.lemmas.Bool.{cases_Bool, false≢true, and_parts, not-true, or_from}
use Rattle.rs_path.specs.Paths.{Path, same_path}
use Rattle.rs_talk.specs.declared.base.Base.{Base}
use Rattle.rs_talk.specs.declared.change.Change.{Change}
use Rattle.rs_talk.specs.declared.change.Change.TheVariants.{Remove}
use Rattle.rs_cache.specs.declared.event.Event.{Event}
use Rattle.rs_cache.specs.declared.event.Event.TheVariants.{Connect, Edit, Sent, Accepted, Absorbed, Held, Conflict as ConflictMade, Pulled, Gone, Settled, Unsettled, Resolved}
use Rattle.rs_cache.specs.States.{State, change_at}
use Rattle.rs_cache.specs.Effects.{conflict_at, after_event}
use Rattle.rs_cache.specs.LastEvents.{none_such, makes_change, ends_change, resolves, is_conflict}
use Rattle.rs_cache.specs.Journals.{after_events, state_of}
use Rattle.rs_cache.specs.Fates.{IsRecorded, HasEnded, HasFate}
use Rattle.rs_cache.proofs.EntryLemmas.{same_from}
use Rattle.rs_cache.proofs.JournalLemmas.{state_of-split}
use Rattle.rs_cache.proofs.ChangeLemmas.{change_at-stays, change_at-made}
use Rattle.rs_cache.proofs.RecordLemmas.{IsNumbered, numbered-step, numbered-journal, record_in-made, record_in-after}

-- the record of a conflict has the change, and stands unless an event resolves it
recorded_by : (s : State) (p q : Path) (c : Change) (remote : Option Base) (late : List Event) → IsNumbered s
    → same_path p q ≡ true → change_at s p ≡ Some c → IsRecorded s (ConflictMade q remote) p c late
recorded_by s p q c remote late numbered same waits =
    let conflict = conflict_at s q remote in
    let made = record_in-made s q remote numbered in
    record {
      conflict = conflict;
      made = made;
      there = sym (same_from p q same);
      local = ap (λ path. unwrap_or (change_at s path) Remove) (sym (same_from p q same)) ∙ ap (λ o. unwrap_or o Remove) waits;
      since = ⊎_elim
          (λ none. inl (record_in-after conflict.n conflict (after_event (ConflictMade q remote) s) late none made))
          (λ some. inr some)
          (cases_Bool (none_such (resolves conflict.n) (after_event (ConflictMade q remote) s) late));
    }

recorded : (s : State) (p : Path) (c : Change) (e : Event) (late : List Event) → IsNumbered s
    → ends_change p s e ≡ true → change_at s p ≡ Some c → is_conflict e ≡ true → IsRecorded s e p c late
recorded s p c (Connect root token scopes) late numbered ends waits conflict = absurd (false≢true conflict)
recorded s p c (Edit q change) late numbered ends waits conflict = absurd (false≢true conflict)
recorded s p c (Sent q) late numbered ends waits conflict = absurd (false≢true conflict)
recorded s p c (Accepted q tag) late numbered ends waits conflict = absurd (false≢true conflict)
recorded s p c (Absorbed q tag) late numbered ends waits conflict = absurd (false≢true conflict)
recorded s p c (Held q status) late numbered ends waits conflict = absurd (false≢true conflict)
recorded s p c (ConflictMade q remote) late numbered ends waits conflict = recorded_by s p q c remote late numbered ends waits
recorded s p c (Pulled q base) late numbered ends waits conflict = absurd (false≢true conflict)
recorded s p c (Gone q) late numbered ends waits conflict = absurd (false≢true conflict)
recorded s p c (Settled q tag) late numbered ends waits conflict = absurd (false≢true conflict)
recorded s p c (Unsettled q) late numbered ends waits conflict = absurd (false≢true conflict)
recorded s p c (Resolved n how) late numbered ends waits conflict = absurd (false≢true conflict)

-- an end among more events
ended_later : (s : State) (p : Path) (c : Change) (e : Event) (es : List Event) → HasEnded (after_event e s) p c es → HasEnded s p c (e ∷ es)
ended_later s p c e es ended = record {
  early = e ∷ ended.early;
  event = ended.event;
  late = ended.late;
  split = ap (λ events. e ∷ events) ended.split;
  ends = ended.ends;
  waited = ended.waited;
  recorded = ended.recorded;
}

-- what waits, waits after events that don't replace it, or has ended
waits_or_ended : (p : Path) (c : Change) (s : State) (es : List Event) → IsNumbered s → change_at s p ≡ Some c
    → none_such (makes_change p) s es ≡ true → (change_at (after_events s es) p ≡ Some c) ⊎ HasEnded s p c es
waits_or_ended p c s [] numbered waits none = inl waits
waits_or_ended p c s (e ∷ es) numbered waits none =
    let parts = and_parts (not (makes_change p s e)) (none_such (makes_change p) (after_event e s) es) none in
    let quiet = not-true (makes_change p s e) parts.0 in
    ⊎_elim
    (λ ends. inr (record {
      early = [];
      event = e;
      late = es;
      split = refl;
      ends = ends;
      waited = waits;
      recorded = recorded s p c e es numbered ends waits;
    }))
    (λ clear.
    let unmoved = or_from (makes_change p s e) (ends_change p s e) quiet clear in
    ⊎_elim
    (λ still. inl still)
    (λ ended. inr (ended_later s p c e es ended))
    (waits_or_ended p c (after_event e s) es (numbered-step s e numbered) (change_at-stays p s e unmoved ∙ waits) parts.1))
    (cases_Bool (ends_change p s e))

pub fate-holds : (past rest : List Event) (e : Event) (p : Path) (c : Change) → HasFate past e rest p c
fate-holds past rest e p c = λ made none.
    let s = state_of past in
    ⊎_elim
    (λ still. inl (ap (λ t. change_at t p) (state_of-split past rest e) ∙ still))
    (λ ended. inr ended)
    (waits_or_ended p c (after_event e s) rest (numbered-step s e (numbered-journal past)) (change_at-made p c s e made) none)
