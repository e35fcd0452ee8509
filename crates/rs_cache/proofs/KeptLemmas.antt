-- What is kept of a folder over events.
use Rattle.std.proofs.Common.{◌≡◌, ℕ, true, false, List, [], ◌∷◌, ◌++◌, Some, None, Option, refl, ap, ◌∙◌, ⊎_elim}
use Rattle.std.proofs.lemmas.Bool.{cases_Bool, false≢true, or_parts}
use Rattle.rs_path.specs.Paths.{Path}
use Rattle.rs_cache.specs.declared.event.Event.{Event}
use Rattle.rs_cache.specs.declared.event.Event.TheVariants.{Connect, Edit, Sent, Accepted, Absorbed, Held, Conflict as ConflictMade, Pulled, Gone, Settled, Unsettled, Resolved}
use Rattle.rs_cache.specs.declared.pending.Pending.{Pending}
use Rattle.rs_cache.specs.Entries.{at_path}
use Rattle.rs_cache.specs.States.{State, no_state, pending_at, kept_at}
use Rattle.rs_cache.specs.Effects.{Edited, resolved_by, held_with, with_change, after_event}
use Rattle.rs_cache.specs.LastEvents.{none_such, says_below, says_kept, said_tag, moves_kept}
use Rattle.rs_cache.specs.Journals.{state_of}
use Rattle.rs_cache.proofs.EntryLemmas.{at_path-put_other, at_path-clear_other, at_path-above, at_path-not_above}
use Rattle.rs_cache.proofs.JournalLemmas.{state_of-split, after-keeps, after-same}
use Rattle.rs_cache.proofs.ChangeLemmas.{dropped, put_same, clear_same}

held_kept : (status : ℕ) (p : Path) (o : Option Pending) (s : State) → (held_with status p o s).kept ≡ s.kept
held_kept status p None s = refl
held_kept status p (Some pending) s = refl

change_kept : (o : Option Edited) (s : State) → (with_change o s).kept ≡ s.kept
change_kept None s = refl
change_kept (Some edited) s = refl

stays_by : (f : Path) (s : State) (e : Event) → says_below f s e ≡ false → says_kept f s e ≡ false → kept_at (after_event e s) f ≡ kept_at s f
stays_by f s (Connect root token scopes) below kept = refl
stays_by f s (Edit q change) below kept = refl
stays_by f s (Sent q) below kept = refl
stays_by f s (Accepted q tag) below kept = at_path-not_above f q s.kept below
stays_by f s (Absorbed q tag) below kept = at_path-not_above f q s.kept below
stays_by f s (Held q status) below kept = ap (at_path f) (held_kept status q (pending_at s q) s)
stays_by f s (ConflictMade q remote) below kept = at_path-not_above f q s.kept below
stays_by f s (Pulled q base) below kept = at_path-not_above f q s.kept below
stays_by f s (Gone q) below kept = at_path-not_above f q s.kept below
stays_by f s (Settled q tag) below kept = at_path-put_other f q tag s.kept kept
stays_by f s (Unsettled q) below kept = at_path-clear_other f q s.kept kept
stays_by f s (Resolved n how) below kept = ap (at_path f) (change_kept (resolved_by s how n) (dropped n s))

kept_at-stays : (f : Path) (s : State) (e : Event) → moves_kept f s e ≡ false → kept_at (after_event e s) f ≡ kept_at s f
kept_at-stays f s e unmoved = let parts = or_parts (says_below f s e) (says_kept f s e) unmoved in stays_by f s e parts.0 parts.1

kept_at-said : (f : Path) (s : State) (e : Event) → says_kept f s e ≡ true → kept_at (after_event e s) f ≡ said_tag e
kept_at-said f s (Connect root token scopes) said = absurd (false≢true said)
kept_at-said f s (Edit q change) said = absurd (false≢true said)
kept_at-said f s (Sent q) said = absurd (false≢true said)
kept_at-said f s (Accepted q tag) said = absurd (false≢true said)
kept_at-said f s (Absorbed q tag) said = absurd (false≢true said)
kept_at-said f s (Held q status) said = absurd (false≢true said)
kept_at-said f s (ConflictMade q remote) said = absurd (false≢true said)
kept_at-said f s (Pulled q base) said = absurd (false≢true said)
kept_at-said f s (Gone q) said = absurd (false≢true said)
kept_at-said f s (Settled q tag) said = put_same f q tag s.kept said
kept_at-said f s (Unsettled q) said = clear_same f q s.kept said
kept_at-said f s (Resolved n how) said = absurd (false≢true said)

kept_at-ended : (f : Path) (s : State) (e : Event) → says_below f s e ≡ true → kept_at (after_event e s) f ≡ None
kept_at-ended f s (Connect root token scopes) said = absurd (false≢true said)
kept_at-ended f s (Edit q change) said = absurd (false≢true said)
kept_at-ended f s (Sent q) said = absurd (false≢true said)
kept_at-ended f s (Accepted q tag) said = at_path-above f q s.kept said
kept_at-ended f s (Absorbed q tag) said = at_path-above f q s.kept said
kept_at-ended f s (Held q status) said = absurd (false≢true said)
kept_at-ended f s (ConflictMade q remote) said = at_path-above f q s.kept said
kept_at-ended f s (Pulled q base) said = at_path-above f q s.kept said
kept_at-ended f s (Gone q) said = at_path-above f q s.kept said
kept_at-ended f s (Settled q tag) said = absurd (false≢true said)
kept_at-ended f s (Unsettled q) said = absurd (false≢true said)
kept_at-ended f s (Resolved n how) said = absurd (false≢true said)

-- where nothing is kept, only a Settled keeps
kept_at-none : (f : Path) (s : State) (e : Event) → says_kept f s e ≡ false → kept_at s f ≡ None → kept_at (after_event e s) f ≡ None
kept_at-none f s e quiet none =
    ⊎_elim
    (λ said. kept_at-ended f s e said)
    (λ clear. stays_by f s e clear quiet ∙ none)
    (cases_Bool (says_below f s e))

pub kept-last : (past rest : List Event) (e : Event) (f : Path) → says_kept f (state_of past) e ≡ true
    → none_such (moves_kept f) (after_event e (state_of past)) rest ≡ true
    → kept_at (state_of (past ++ e ∷ rest)) f ≡ said_tag e
kept-last past rest e f said none =
    ap (λ s. kept_at s f) (state_of-split past rest e)
    ∙ after-same (λ s. kept_at s f) (moves_kept f) (kept_at-stays f) (after_event e (state_of past)) rest none
    ∙ kept_at-said f (state_of past) e said

pub kept-ended : (past rest : List Event) (e : Event) (f : Path) → says_below f (state_of past) e ≡ true
    → none_such (says_kept f) (after_event e (state_of past)) rest ≡ true
    → kept_at (state_of (past ++ e ∷ rest)) f ≡ None
kept-ended past rest e f said none =
    ap (λ s. kept_at s f) (state_of-split past rest e)
    ∙ after-keeps (λ s. kept_at s f ≡ None) (says_kept f) (kept_at-none f) (after_event e (state_of past)) rest none
    (kept_at-ended f (state_of past) e said)

pub kept-none : (journal : List Event) (f : Path) → none_such (says_kept f) (state_of []) journal ≡ true → kept_at (state_of journal) f ≡ None
kept-none journal f none = after-keeps (λ s. kept_at s f ≡ None) (says_kept f) (kept_at-none f) no_state journal none refl
