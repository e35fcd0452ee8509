-- The changes in doubt over events.
use Rattle.std.proofs.Common.{◌≡◌, ℕ, Bool, true, false, cond, List, [], ◌∷◌, ◌++◌, Some, None, Option, refl, sym, ap, ◌∙◌, ⊎_elim, unwrap_or}
use Rattle.std.specs.Prelude.{if◌then◌else◌}
use Rattle.std.specs.List.{list_any}
use Rattle.std.proofs.lemmas.Bool.{cases_Bool, false≢true, and_parts, not-true, cond-true, cond-false}
use Rattle.std.specs.Prelude.{not}
use Rattle.rs_path.specs.Paths.{Path, same_path}
use Rattle.rs_talk.specs.declared.change.Change.{Change}
use Rattle.rs_talk.specs.Changes.{same_change}
use Rattle.rs_cache.specs.declared.event.Event.{Event}
use Rattle.rs_cache.specs.declared.event.Event.TheVariants.{Connect, Edit, Sent, Accepted, Absorbed, Held, Conflict as ConflictMade, Pulled, Gone, Settled, Unsettled, Resolved}
use Rattle.rs_cache.specs.declared.pending.Pending.{Pending}
use Rattle.rs_cache.specs.Entries.{at_path, put_at}
use Rattle.rs_cache.specs.States.{State, no_state, pending_at, doubts_at}
use Rattle.rs_cache.specs.Effects.{Edited, resolved_by, held_with, with_change, with_doubt, in_doubt, after_event}
use Rattle.rs_cache.specs.LastEvents.{none_such, says_base, sends_change, doubts_with}
use Rattle.rs_cache.specs.Journals.{after_events, state_of}
use Rattle.rs_cache.proofs.EntryLemmas.{same_from, at_path-put, at_path-put_other, at_path-clear_other}
use Rattle.rs_cache.proofs.JournalLemmas.{state_of-split}
use Rattle.rs_cache.proofs.ChangeLemmas.{dropped, clear_same}

abbrev doubts_in : Option (List Change) → List Change
doubts_in o = unwrap_or o []

held_doubts : (status : ℕ) (p : Path) (o : Option Pending) (s : State) → (held_with status p o s).doubts ≡ s.doubts
held_doubts status p None s = refl
held_doubts status p (Some pending) s = refl

change_doubts : (o : Option Edited) (s : State) → (with_change o s).doubts ≡ s.doubts
change_doubts None s = refl
change_doubts (Some edited) s = refl

-- the doubts of the path, and what the event adds to them
abbrev doubts_step : Path → State → Event → List Change → List Change
doubts_step p s e doubts = if sends_change p e then with_doubt (pending_at s p) doubts else doubts

own_by : (p : Path) (c : Change) (es : List (Path × List Change)) (b : Bool)
    → doubts_in (at_path p (cond b es (put_at p (doubts_in (at_path p es) ++ c ∷ []) es))) ≡ cond b (doubts_in (at_path p es)) (doubts_in (at_path p es) ++ c ∷ [])
own_by p c es true = refl
own_by p c es false = ap doubts_in (at_path-put p (doubts_in (at_path p es) ++ c ∷ []) es)

in_doubt-own : (p : Path) (o : Option Pending) (es : List (Path × List Change)) → doubts_in (at_path p (in_doubt p o es)) ≡ with_doubt o (doubts_in (at_path p es))
in_doubt-own p None es = refl
in_doubt-own p (Some pending) es = own_by p pending.change es (list_any (same_change pending.change) (doubts_in (at_path p es)))

other_by : (p q : Path) (v : List Change) (es : List (Path × List Change)) (b : Bool) → same_path p q ≡ false
    → at_path p (cond b es (put_at q v es)) ≡ at_path p es
other_by p q v es true other = refl
other_by p q v es false other = at_path-put_other p q v es other

in_doubt-other : (p q : Path) (o : Option Pending) (es : List (Path × List Change)) → same_path p q ≡ false → at_path p (in_doubt q o es) ≡ at_path p es
in_doubt-other p q None es other = refl
in_doubt-other p q (Some pending) es other =
    let before = doubts_in (at_path q es) in
    other_by p q (before ++ pending.change ∷ []) es (list_any (same_change pending.change) before) other

sent : (p q : Path) (s : State) → doubts_at (after_event (Sent q) s) p ≡ doubts_step p s (Sent q) (doubts_at s p)
sent p q s =
    let waits = pending_at s q in
    let told = with_doubt (pending_at s p) (doubts_at s p) in
    ⊎_elim
    (λ same. ap (λ path. doubts_in (at_path path (in_doubt q waits s.doubts))) (same_from p q same)
    ∙ in_doubt-own q waits s.doubts
    ∙ sym (ap (λ path. with_doubt (pending_at s path) (doubts_at s path)) (same_from p q same))
    ∙ sym (cond-true (same_path p q) told (doubts_at s p) same))
    (λ other. ap doubts_in (in_doubt-other p q waits s.doubts other)
    ∙ sym (cond-false (same_path p q) told (doubts_at s p) other))
    (cases_Bool (same_path p q))

-- an event that doesn't say the path's base adds what it sends
doubts_at-step : (p : Path) (s : State) (e : Event) → says_base p s e ≡ false → doubts_at (after_event e s) p ≡ doubts_step p s e (doubts_at s p)
doubts_at-step p s (Connect root token scopes) quiet = refl
doubts_at-step p s (Edit q change) quiet = refl
doubts_at-step p s (Sent q) quiet = sent p q s
doubts_at-step p s (Accepted q tag) quiet = ap doubts_in (at_path-clear_other p q s.doubts quiet)
doubts_at-step p s (Absorbed q tag) quiet = ap doubts_in (at_path-clear_other p q s.doubts quiet)
doubts_at-step p s (Held q status) quiet = ap (λ doubts. doubts_in (at_path p doubts)) (held_doubts status q (pending_at s q) s)
doubts_at-step p s (ConflictMade q remote) quiet = ap doubts_in (at_path-clear_other p q s.doubts quiet)
doubts_at-step p s (Pulled q base) quiet = ap doubts_in (at_path-clear_other p q s.doubts quiet)
doubts_at-step p s (Gone q) quiet = ap doubts_in (at_path-clear_other p q s.doubts quiet)
doubts_at-step p s (Settled q tag) quiet = refl
doubts_at-step p s (Unsettled q) quiet = refl
doubts_at-step p s (Resolved n how) quiet = ap (λ doubts. doubts_in (at_path p doubts)) (change_doubts (resolved_by s how n) (dropped n s))

-- an event that says the path's base ends its doubts
doubts_at-said : (p : Path) (s : State) (e : Event) → says_base p s e ≡ true → doubts_at (after_event e s) p ≡ []
doubts_at-said p s (Connect root token scopes) said = absurd (false≢true said)
doubts_at-said p s (Edit q change) said = absurd (false≢true said)
doubts_at-said p s (Sent q) said = absurd (false≢true said)
doubts_at-said p s (Accepted q tag) said = ap doubts_in (clear_same p q s.doubts said)
doubts_at-said p s (Absorbed q tag) said = ap doubts_in (clear_same p q s.doubts said)
doubts_at-said p s (Held q status) said = absurd (false≢true said)
doubts_at-said p s (ConflictMade q remote) said = ap doubts_in (clear_same p q s.doubts said)
doubts_at-said p s (Pulled q base) said = ap doubts_in (clear_same p q s.doubts said)
doubts_at-said p s (Gone q) said = ap doubts_in (clear_same p q s.doubts said)
doubts_at-said p s (Settled q tag) said = absurd (false≢true said)
doubts_at-said p s (Unsettled q) said = absurd (false≢true said)
doubts_at-said p s (Resolved n how) said = absurd (false≢true said)

-- what is in doubt after events that don't say the path's base
doubts-after : (p : Path) (doubts : List Change) (s : State) (es : List Event) → none_such (says_base p) s es ≡ true
    → doubts_at s p ≡ doubts → doubts_at (after_events s es) p ≡ doubts_with p doubts s es
doubts-after p doubts s [] none now = now
doubts-after p doubts s (e ∷ es) none now =
    let parts = and_parts (not (says_base p s e)) (none_such (says_base p) (after_event e s) es) none in
    doubts-after p (doubts_step p s e doubts) (after_event e s) es parts.1
    (doubts_at-step p s e (not-true (says_base p s e) parts.0) ∙ ap (doubts_step p s e) now)

pub doubts-last : (past rest : List Event) (e : Event) (p : Path) → says_base p (state_of past) e ≡ true
    → none_such (says_base p) (after_event e (state_of past)) rest ≡ true
    → doubts_at (state_of (past ++ e ∷ rest)) p ≡ doubts_with p [] (after_event e (state_of past)) rest
doubts-last past rest e p said none =
    ap (λ s. doubts_at s p) (state_of-split past rest e)
    ∙ doubts-after p [] (after_event e (state_of past)) rest none (doubts_at-said p (state_of past) e said)

pub doubts-first : (journal : List Event) (p : Path) → none_such (says_base p) (state_of []) journal ≡ true
    → doubts_at (state_of journal) p ≡ doubts_with p [] (state_of []) journal
doubts-first journal p none = doubts-after p [] no_state journal none refl
