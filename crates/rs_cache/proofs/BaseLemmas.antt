-- The base of a path over events.
use Rattle.std.proofs.Common.{◌≡◌, ℕ, true, false, List, [], ◌∷◌, ◌++◌, Some, None, Option, refl, ap, ◌∙◌}
use Rattle.std.proofs.lemmas.Bool.{false≢true}
use Rattle.rs_path.specs.Paths.{Path, same_path}
use Rattle.rs_talk.specs.declared.base.Base.{Base}
use Rattle.rs_cache.specs.declared.event.Event.{Event}
use Rattle.rs_cache.specs.declared.event.Event.TheVariants.{Connect, Edit, Sent, Accepted, Absorbed, Held, Conflict as ConflictMade, Pulled, Gone, Settled, Unsettled, Resolved}
use Rattle.rs_cache.specs.declared.pending.Pending.{Pending}
use Rattle.rs_cache.specs.Entries.{at_path, set_at}
use Rattle.rs_cache.specs.States.{State, no_state, base_at, pending_at, drop_record}
use Rattle.rs_cache.specs.Effects.{Edited, resolved_by, base_by, held_with, with_change, after_event}
use Rattle.rs_cache.specs.LastEvents.{none_such, says_base, said_base}
use Rattle.rs_cache.specs.Journals.{state_of}
use Rattle.rs_cache.proofs.EntryLemmas.{same_from, at_path-set, at_path-set_other}
use Rattle.rs_cache.proofs.JournalLemmas.{state_of-split, after-same}

held_base : (status : ℕ) (p : Path) (o : Option Pending) (s : State) → (held_with status p o s).base ≡ s.base
held_base status p None s = refl
held_base status p (Some pending) s = refl

change_base : (o : Option Edited) (s : State) → (with_change o s).base ≡ s.base
change_base None s = refl
change_base (Some edited) s = refl

-- an event that doesn't say the path's base leaves it
pub base_at-stays : (p : Path) (s : State) (e : Event) → says_base p s e ≡ false → base_at (after_event e s) p ≡ base_at s p
base_at-stays p s (Connect root token scopes) quiet = refl
base_at-stays p s (Edit q change) quiet = refl
base_at-stays p s (Sent q) quiet = refl
base_at-stays p s (Accepted q tag) quiet = at_path-set_other p q (base_by tag (pending_at s q)) s.base quiet
base_at-stays p s (Absorbed q tag) quiet = at_path-set_other p q (base_by tag (pending_at s q)) s.base quiet
base_at-stays p s (Held q status) quiet = ap (at_path p) (held_base status q (pending_at s q) s)
base_at-stays p s (ConflictMade q remote) quiet = at_path-set_other p q remote s.base quiet
base_at-stays p s (Pulled q base) quiet = at_path-set_other p q (Some base) s.base quiet
base_at-stays p s (Gone q) quiet = at_path-set_other p q None s.base quiet
base_at-stays p s (Settled q tag) quiet = refl
base_at-stays p s (Unsettled q) quiet = refl
base_at-stays p s (Resolved n how) quiet =
    ap (at_path p) (change_base (resolved_by s how n) (record s { records = drop_record n s.records }))

set_said : (p q : Path) (o : Option Base) (es : List (Path × Base)) → same_path p q ≡ true → at_path p (set_at q o es) ≡ o
set_said p q o es same = ap (λ path. at_path path (set_at q o es)) (same_from p q same) ∙ at_path-set q o es

-- an event that says the path's base sets it
pub base_at-said : (p : Path) (s : State) (e : Event) → says_base p s e ≡ true → base_at (after_event e s) p ≡ said_base s e
base_at-said p s (Connect root token scopes) said = absurd (false≢true said)
base_at-said p s (Edit q change) said = absurd (false≢true said)
base_at-said p s (Sent q) said = absurd (false≢true said)
base_at-said p s (Accepted q tag) said = set_said p q (base_by tag (pending_at s q)) s.base said
base_at-said p s (Absorbed q tag) said = set_said p q (base_by tag (pending_at s q)) s.base said
base_at-said p s (Held q status) said = absurd (false≢true said)
base_at-said p s (ConflictMade q remote) said = set_said p q remote s.base said
base_at-said p s (Pulled q base) said = set_said p q (Some base) s.base said
base_at-said p s (Gone q) said = set_said p q None s.base said
base_at-said p s (Settled q tag) said = absurd (false≢true said)
base_at-said p s (Unsettled q) said = absurd (false≢true said)
base_at-said p s (Resolved n how) said = absurd (false≢true said)

pub base-last : (past rest : List Event) (e : Event) (p : Path) → says_base p (state_of past) e ≡ true
    → none_such (says_base p) (after_event e (state_of past)) rest ≡ true
    → base_at (state_of (past ++ e ∷ rest)) p ≡ said_base (state_of past) e
base-last past rest e p said none =
    ap (λ s. base_at s p) (state_of-split past rest e)
    ∙ after-same (λ s. base_at s p) (says_base p) (base_at-stays p) (after_event e (state_of past)) rest none
    ∙ base_at-said p (state_of past) e said

pub base-none : (journal : List Event) (p : Path) → none_such (says_base p) (state_of []) journal ≡ true → base_at (state_of journal) p ≡ None
base-none journal p none = after-same (λ s. base_at s p) (says_base p) (base_at-stays p) no_state journal none
