-- The change that waits at a path over events, and the status that it is held with.
use Rattle.std.proofs.Common.{◌≡◌, ℕ, true, false, List, [], ◌∷◌, ◌++◌, Some, None, Option, is_some, refl, sym, ap, ◌∙◌, ⊎_elim, option_map}
use Rattle.std.proofs.lemmas.Bool.{cases_Bool, false≢true, or_parts, or_from, or_cases}
use Rattle.rs_path.specs.Paths.{Path, same_path}
use Rattle.rs_talk.specs.declared.change.Change.{Change}
use Rattle.rs_cache.specs.declared.event.Event.{Event}
use Rattle.rs_cache.specs.declared.event.Event.TheVariants.{Connect, Edit, Sent, Accepted, Absorbed, Held, Conflict as ConflictMade, Pulled, Gone, Settled, Unsettled, Resolved}
use Rattle.rs_cache.specs.declared.pending.Pending.{Pending}
use Rattle.rs_cache.specs.Entries.{at_path, put_at, clear_at}
use Rattle.rs_cache.specs.States.{State, no_state, pending_at, change_at, held_by, held_at, drop_record}
use Rattle.rs_cache.specs.Effects.{waiting, kept_back, Edited, change_by, resolved_by, held_with, with_change, after_event}
use Rattle.rs_cache.specs.LastEvents.{none_such, is_that_path, edited_path, makes_change, ends_change, moves_change, holds_change, touches_change}
use Rattle.rs_cache.specs.Journals.{state_of}
use Rattle.rs_cache.proofs.EntryLemmas.{same_from, at_path-put, at_path-put_other, at_path-clear, at_path-clear_other}
use Rattle.rs_cache.proofs.JournalLemmas.{state_of-split, after-keeps, after-same}

abbrev change_in : Option Pending → Option Change
change_in o = option_map (λ (p : Pending). p.change) o

-- the state in which a conflict was resolved, before its change waits again
abbrev pub dropped : ℕ → State → State
dropped n s = record s { records = drop_record n s.records }

-- ---- what a change does

pub put_same : {X : Type 0} (p q : Path) (v : X) (es : List (Path × X)) → same_path p q ≡ true → at_path p (put_at q v es) ≡ Some v
put_same p q v es same = ap (λ path. at_path path (put_at q v es)) (same_from p q same) ∙ at_path-put q v es

pub clear_same : {X : Type 0} (p q : Path) (es : List (Path × X)) → same_path p q ≡ true → at_path p (clear_at q es) ≡ None
clear_same p q es same = ap (λ path. at_path path (clear_at q es)) (same_from p q same) ∙ at_path-clear q es

-- a change that isn't of the path leaves what waits there
with_change-other : (p : Path) (o : Option Edited) (s : State) → is_that_path p (edited_path o) ≡ false
    → pending_at (with_change o s) p ≡ pending_at s p
with_change-other p None s other = refl
with_change-other p (Some edited) s other = at_path-put_other p edited.path (waiting edited.change) s.pending other

-- a change of the path waits there
with_change-made : (p : Path) (c : Change) (o : Option Edited) (s : State) → o ≡ Some (record { path = p; change = c })
    → change_at (with_change o s) p ≡ Some c
with_change-made p c o s made =
    ap (λ edited. change_at (with_change edited s) p) made
    ∙ ap change_in (at_path-put p (waiting c) s.pending)

-- and isn't held
with_change-free : (p : Path) (o : Option Edited) (s : State) → is_that_path p (edited_path o) ≡ true
    → held_at (with_change o s) p ≡ None
with_change-free p None s made = absurd (false≢true made)
with_change-free p (Some edited) s made = ap held_by (put_same p edited.path (waiting edited.change) s.pending made)

-- ---- what is left as it was

-- a hold leaves what waits elsewhere
held_with-other : (p q : Path) (status : ℕ) (o : Option Pending) (s : State) → same_path p q ≡ false
    → pending_at (held_with status q o s) p ≡ pending_at s p
held_with-other p q status None s other = refl
held_with-other p q status (Some pending) s other = at_path-put_other p q (kept_back status pending.change) s.pending other

-- a hold leaves the change itself
held_with-change : (p q : Path) (status : ℕ) (o : Option Pending) (s : State) → pending_at s q ≡ o → same_path p q ≡ true
    → change_at (held_with status q o s) p ≡ change_at s p
held_with-change p q status None s waits same = refl
held_with-change p q status (Some pending) s waits same =
    ap change_in (put_same p q (kept_back status pending.change) s.pending same)
    ∙ sym (ap (change_at s) (same_from p q same) ∙ ap change_in waits)

stays_by : (p : Path) (s : State) (e : Event) → holds_change p s e ≡ false → makes_change p s e ≡ false → ends_change p s e ≡ false
    → pending_at (after_event e s) p ≡ pending_at s p
stays_by p s (Connect root token scopes) holds makes ends = refl
stays_by p s (Edit q change) holds makes ends = at_path-put_other p q (waiting change) s.pending makes
stays_by p s (Sent q) holds makes ends = refl
stays_by p s (Accepted q tag) holds makes ends = at_path-clear_other p q s.pending ends
stays_by p s (Absorbed q tag) holds makes ends = at_path-clear_other p q s.pending ends
stays_by p s (Held q status) holds makes ends = held_with-other p q status (pending_at s q) s holds
stays_by p s (ConflictMade q remote) holds makes ends = at_path-clear_other p q s.pending ends
stays_by p s (Pulled q base) holds makes ends = refl
stays_by p s (Gone q) holds makes ends = refl
stays_by p s (Settled q tag) holds makes ends = refl
stays_by p s (Unsettled q) holds makes ends = refl
stays_by p s (Resolved n how) holds makes ends = with_change-other p (resolved_by s how n) (dropped n s) makes

-- an event that neither makes, ends nor holds a change of the path leaves what waits there
pub pending_at-stays : (p : Path) (s : State) (e : Event) → touches_change p s e ≡ false → pending_at (after_event e s) p ≡ pending_at s p
pending_at-stays p s e untouched =
    let holds = or_parts (holds_change p s e) (moves_change p s e) untouched in
    let moves = or_parts (makes_change p s e) (ends_change p s e) holds.1 in
    stays_by p s e holds.0 moves.0 moves.1

hold_by : (p : Path) (s : State) (e : Event) → holds_change p s e ≡ true → change_at (after_event e s) p ≡ change_at s p
hold_by p s (Connect root token scopes) holds = absurd (false≢true holds)
hold_by p s (Edit q change) holds = absurd (false≢true holds)
hold_by p s (Sent q) holds = absurd (false≢true holds)
hold_by p s (Accepted q tag) holds = absurd (false≢true holds)
hold_by p s (Absorbed q tag) holds = absurd (false≢true holds)
hold_by p s (Held q status) holds = held_with-change p q status (pending_at s q) s refl holds
hold_by p s (ConflictMade q remote) holds = absurd (false≢true holds)
hold_by p s (Pulled q base) holds = absurd (false≢true holds)
hold_by p s (Gone q) holds = absurd (false≢true holds)
hold_by p s (Settled q tag) holds = absurd (false≢true holds)
hold_by p s (Unsettled q) holds = absurd (false≢true holds)
hold_by p s (Resolved n how) holds = absurd (false≢true holds)

-- an event that neither makes nor ends a change of the path leaves the change
pub change_at-stays : (p : Path) (s : State) (e : Event) → moves_change p s e ≡ false → change_at (after_event e s) p ≡ change_at s p
change_at-stays p s e unmoved =
    ⊎_elim
    (λ holds. hold_by p s e holds)
    (λ clear. ap change_in (pending_at-stays p s e (or_from (holds_change p s e) (moves_change p s e) clear unmoved)))
    (cases_Bool (holds_change p s e))

-- ---- what an event sets

-- an event that makes a change of the path leaves it waiting
pub change_at-made : (p : Path) (c : Change) (s : State) (e : Event) → change_by s e ≡ Some (record { path = p; change = c })
    → change_at (after_event e s) p ≡ Some c
change_at-made p c s (Connect root token scopes) made = absurd (false≢true (ap is_some made))
change_at-made p c s (Edit q change) made = with_change-made p c (Some (record { path = q; change = change })) s made
change_at-made p c s (Sent q) made = absurd (false≢true (ap is_some made))
change_at-made p c s (Accepted q tag) made = absurd (false≢true (ap is_some made))
change_at-made p c s (Absorbed q tag) made = absurd (false≢true (ap is_some made))
change_at-made p c s (Held q status) made = absurd (false≢true (ap is_some made))
change_at-made p c s (ConflictMade q remote) made = absurd (false≢true (ap is_some made))
change_at-made p c s (Pulled q base) made = absurd (false≢true (ap is_some made))
change_at-made p c s (Gone q) made = absurd (false≢true (ap is_some made))
change_at-made p c s (Settled q tag) made = absurd (false≢true (ap is_some made))
change_at-made p c s (Unsettled q) made = absurd (false≢true (ap is_some made))
change_at-made p c s (Resolved n how) made = with_change-made p c (resolved_by s how n) (dropped n s) made

-- an event that ends the path's change leaves nothing waiting
pub pending_at-ended : (p : Path) (s : State) (e : Event) → ends_change p s e ≡ true → pending_at (after_event e s) p ≡ None
pending_at-ended p s (Connect root token scopes) ends = absurd (false≢true ends)
pending_at-ended p s (Edit q change) ends = absurd (false≢true ends)
pending_at-ended p s (Sent q) ends = absurd (false≢true ends)
pending_at-ended p s (Accepted q tag) ends = clear_same p q s.pending ends
pending_at-ended p s (Absorbed q tag) ends = clear_same p q s.pending ends
pending_at-ended p s (Held q status) ends = absurd (false≢true ends)
pending_at-ended p s (ConflictMade q remote) ends = clear_same p q s.pending ends
pending_at-ended p s (Pulled q base) ends = absurd (false≢true ends)
pending_at-ended p s (Gone q) ends = absurd (false≢true ends)
pending_at-ended p s (Settled q tag) ends = absurd (false≢true ends)
pending_at-ended p s (Unsettled q) ends = absurd (false≢true ends)
pending_at-ended p s (Resolved n how) ends = absurd (false≢true ends)

-- where nothing waits, and no change is made, nothing waits
change_at-none : (p : Path) (s : State) (e : Event) → makes_change p s e ≡ false → change_at s p ≡ None → change_at (after_event e s) p ≡ None
change_at-none p s e quiet none =
    ⊎_elim
    (λ ends. ap change_in (pending_at-ended p s e ends))
    (λ clear. change_at-stays p s e (or_from (makes_change p s e) (ends_change p s e) quiet clear) ∙ none)
    (cases_Bool (ends_change p s e))

-- ---- the laws

pub change-made : (past rest : List Event) (e : Event) (p : Path) (c : Change)
    → change_by (state_of past) e ≡ Some (record { path = p; change = c })
    → none_such (moves_change p) (after_event e (state_of past)) rest ≡ true
    → change_at (state_of (past ++ e ∷ rest)) p ≡ Some c
change-made past rest e p c made none =
    ap (λ s. change_at s p) (state_of-split past rest e)
    ∙ after-same (λ s. change_at s p) (moves_change p) (change_at-stays p) (after_event e (state_of past)) rest none
    ∙ change_at-made p c (state_of past) e made

pub change-ended : (past rest : List Event) (e : Event) (p : Path) → ends_change p (state_of past) e ≡ true
    → none_such (makes_change p) (after_event e (state_of past)) rest ≡ true
    → change_at (state_of (past ++ e ∷ rest)) p ≡ None
change-ended past rest e p ends none =
    ap (λ s. change_at s p) (state_of-split past rest e)
    ∙ after-keeps (λ s. change_at s p ≡ None) (makes_change p) (change_at-none p) (after_event e (state_of past)) rest none
    (ap change_in (pending_at-ended p (state_of past) e ends))

pub change-none : (journal : List Event) (p : Path) → none_such (makes_change p) (state_of []) journal ≡ true → change_at (state_of journal) p ≡ None
change-none journal p none = after-keeps (λ s. change_at s p ≡ None) (makes_change p) (change_at-none p) no_state journal none refl

-- a hold sets the status, where something waits
held_now : (p : Path) (status : ℕ) (c : Change) (o : Option Pending) (s : State) → change_in o ≡ Some c
    → held_at (held_with status p o s) p ≡ Some status
held_now p status c None s waits = absurd (false≢true (ap is_some waits))
held_now p status c (Some pending) s waits = ap held_by (at_path-put p (kept_back status pending.change) s.pending)

held_at-stays : (p : Path) (s : State) (e : Event) → touches_change p s e ≡ false → held_at (after_event e s) p ≡ held_at s p
held_at-stays p s e untouched = ap held_by (pending_at-stays p s e untouched)

pub held-last : (past rest : List Event) (p : Path) (status : ℕ) (c : Change) → change_at (state_of past) p ≡ Some c
    → none_such (touches_change p) (after_event (Held p status) (state_of past)) rest ≡ true
    → held_at (state_of (past ++ Held p status ∷ rest)) p ≡ Some status
held-last past rest p status c waits none =
    ap (λ s. held_at s p) (state_of-split past rest (Held p status))
    ∙ after-same (λ s. held_at s p) (touches_change p) (held_at-stays p) (after_event (Held p status) (state_of past)) rest none
    ∙ held_now p status c (pending_at (state_of past) p) (state_of past) waits

-- an event that makes a change of the path leaves it free
free_made : (p : Path) (s : State) (e : Event) → makes_change p s e ≡ true → held_at (after_event e s) p ≡ None
free_made p s (Connect root token scopes) made = absurd (false≢true made)
free_made p s (Edit q change) made = with_change-free p (Some (record { path = q; change = change })) s made
free_made p s (Sent q) made = absurd (false≢true made)
free_made p s (Accepted q tag) made = absurd (false≢true made)
free_made p s (Absorbed q tag) made = absurd (false≢true made)
free_made p s (Held q status) made = absurd (false≢true made)
free_made p s (ConflictMade q remote) made = absurd (false≢true made)
free_made p s (Pulled q base) made = absurd (false≢true made)
free_made p s (Gone q) made = absurd (false≢true made)
free_made p s (Settled q tag) made = absurd (false≢true made)
free_made p s (Unsettled q) made = absurd (false≢true made)
free_made p s (Resolved n how) made = with_change-free p (resolved_by s how n) (dropped n s) made

free_now : (p : Path) (s : State) (e : Event) → moves_change p s e ≡ true → held_at (after_event e s) p ≡ None
free_now p s e moves =
    ⊎_elim (λ made. free_made p s e made) (λ ends. ap held_by (pending_at-ended p s e ends))
    (or_cases (makes_change p s e) (ends_change p s e) moves)

pub held-free : (past rest : List Event) (e : Event) (p : Path) → moves_change p (state_of past) e ≡ true
    → none_such (touches_change p) (after_event e (state_of past)) rest ≡ true
    → held_at (state_of (past ++ e ∷ rest)) p ≡ None
held-free past rest e p moves none =
    ap (λ s. held_at s p) (state_of-split past rest e)
    ∙ after-same (λ s. held_at s p) (touches_change p) (held_at-stays p) (after_event e (state_of past)) rest none
    ∙ free_now p (state_of past) e moves
