-- The conflicts that stand, over events.
use Rattle.std.proofs.Common.{◌≡◌, ℕ, ◌+◌, ◌<◌, ◌≤◌, true, false, ◌==◌, cond, List, [], ◌∷◌, ◌++◌, Some, None, Option, refl, sym, ap, ◌∙◌, ⊎_elim, IfSome, is_some, arith}
use Rattle.std.proofs.lemmas.Bool.{cases_Bool, cases_lt, false≢true, true≢false, cond-true, cond-false}
use Rattle.std.proofs.lemmas.Bool.Decides.{nat_tests}
use Rattle.rs_path.specs.Paths.{Path}
use Rattle.rs_talk.specs.declared.base.Base.{Base}
use Rattle.rs_rules.proofs.Cited.{find-filter_not, find-filter_other}
use Rattle.rs_cache.specs.declared.conflict.Conflict.{Conflict}
use Rattle.rs_cache.specs.declared.event.Event.{Event}
use Rattle.rs_cache.specs.declared.event.Event.TheVariants.{Connect, Edit, Sent, Accepted, Absorbed, Held, Conflict as ConflictMade, Pulled, Gone, Settled, Unsettled, Resolved}
use Rattle.rs_cache.specs.declared.pending.Pending.{Pending}
use Rattle.rs_cache.specs.States.{State, no_state, pending_at, record_in, drop_record}
use Rattle.rs_cache.specs.Effects.{Edited, resolved_by, held_with, with_change, conflict_at, after_event}
use Rattle.rs_cache.specs.LastEvents.{none_such, resolves}
use Rattle.rs_cache.specs.Journals.{after_events, state_of}
use Rattle.rs_cache.proofs.JournalLemmas.{state_of-split, after-keeps, after-holds}
use Rattle.rs_cache.proofs.ChangeLemmas.{dropped}

held_records : (status : ℕ) (p : Path) (o : Option Pending) (s : State) → (held_with status p o s).records ≡ s.records
held_records status p None s = refl
held_records status p (Some pending) s = refl

change_records : (o : Option Edited) (s : State) → (with_change o s).records ≡ s.records
change_records None s = refl
change_records (Some edited) s = refl

held_made : (status : ℕ) (p : Path) (o : Option Pending) (s : State) → (held_with status p o s).made ≡ s.made
held_made status p None s = refl
held_made status p (Some pending) s = refl

change_made : (o : Option Edited) (s : State) → (with_change o s).made ≡ s.made
change_made None s = refl
change_made (Some edited) s = refl

-- ---- lists of conflicts

-- what was found is found in a longer list
record_in-more : (n : ℕ) (rs : List Conflict) (c r : Conflict) → record_in n rs ≡ Some r → record_in n (rs ++ c ∷ []) ≡ Some r
record_in-more n [] c r found = absurd (false≢true (ap is_some found))
record_in-more n (x ∷ xs) c r found =
    ⊎_elim
    (λ hit. cond-true (x.n == n) (Some x) (record_in n (xs ++ c ∷ [])) hit ∙ sym (cond-true (x.n == n) (Some x) (record_in n xs) hit) ∙ found)
    (λ clear. cond-false (x.n == n) (Some x) (record_in n (xs ++ c ∷ [])) clear
    ∙ record_in-more n xs c r (sym (cond-false (x.n == n) (Some x) (record_in n xs) clear) ∙ found))
    (cases_Bool (x.n == n))

-- where there is none, the one behind decides
record_in-last : (n : ℕ) (rs : List Conflict) (c : Conflict) → record_in n rs ≡ None → record_in n (rs ++ c ∷ []) ≡ cond (c.n == n) (Some c) None
record_in-last n [] c none = refl
record_in-last n (x ∷ xs) c none =
    ⊎_elim
    (λ hit. absurd (true≢false (ap is_some (sym (cond-true (x.n == n) (Some x) (record_in n xs) hit) ∙ none))))
    (λ clear. cond-false (x.n == n) (Some x) (record_in n (xs ++ c ∷ [])) clear
    ∙ record_in-last n xs c (sym (cond-false (x.n == n) (Some x) (record_in n xs) clear) ∙ none))
    (cases_Bool (x.n == n))

number_apart : (k n m : ℕ) → (k == n) ≡ true → (m == n) ≡ false → (k == m) ≡ false
number_apart k n m same other = grind (arith, nat_tests, same, other)

equal_numbers : (m n : ℕ) → (m == n) ≡ true → m ≡ n
equal_numbers m n same = grind (arith, nat_tests, same)

-- another number taken away leaves this one
record_in-other : (n m : ℕ) (rs : List Conflict) → (m == n) ≡ false → record_in n (drop_record m rs) ≡ record_in n rs
record_in-other n m rs other =
    find-filter_other (λ (r : Conflict). r.n == m) (λ (r : Conflict). r.n == n) rs (λ r same. number_apart r.n n m same other)

-- the number itself is gone
record_in-dropped : (n : ℕ) (rs : List Conflict) → record_in n (drop_record n rs) ≡ None
record_in-dropped n rs = find-filter_not (λ (r : Conflict). r.n == n) rs

-- where there is none, there is none once another is taken away
record_in-still : (n m : ℕ) (rs : List Conflict) → record_in n rs ≡ None → record_in n (drop_record m rs) ≡ None
record_in-still n m rs none =
    ⊎_elim
    (λ same. ap (λ k. record_in n (drop_record k rs)) (equal_numbers m n same) ∙ record_in-dropped n rs)
    (λ other. record_in-other n m rs other ∙ none)
    (cases_Bool (m == n))

-- ---- what an event leaves

-- a conflict that isn't resolved stands
record_in-stays : (n : ℕ) (r : Conflict) (s : State) (e : Event) → resolves n s e ≡ false → record_in n s.records ≡ Some r
    → record_in n (after_event e s).records ≡ Some r
record_in-stays n r s (Connect root token scopes) other found = found
record_in-stays n r s (Edit q change) other found = found
record_in-stays n r s (Sent q) other found = found
record_in-stays n r s (Accepted q tag) other found = found
record_in-stays n r s (Absorbed q tag) other found = found
record_in-stays n r s (Held q status) other found = ap (record_in n) (held_records status q (pending_at s q) s) ∙ found
record_in-stays n r s (ConflictMade q remote) other found = record_in-more n s.records (conflict_at s q remote) r found
record_in-stays n r s (Pulled q base) other found = found
record_in-stays n r s (Gone q) other found = found
record_in-stays n r s (Settled q tag) other found = found
record_in-stays n r s (Unsettled q) other found = found
record_in-stays n r s (Resolved m how) other found =
    ap (record_in n) (change_records (resolved_by s how m) (dropped m s)) ∙ record_in-other n m s.records other ∙ found

pub record_in-after : (n : ℕ) (r : Conflict) (s : State) (es : List Event) → none_such (resolves n) s es ≡ true → record_in n s.records ≡ Some r
    → record_in n (after_events s es).records ≡ Some r
record_in-after n r s es none found =
    after-keeps (λ t. record_in n t.records ≡ Some r) (resolves n) (record_in-stays n r) s es none found

-- no conflict has a number that wasn't reached
pub record IsNumbered (s : State) : Type 0 where
  pub none : (n : ℕ) → s.made < n → record_in n s.records ≡ None

-- the number was reached, and nothing has it any more
pub record IsPast (n : ℕ) (s : State) : Type 0 where
  pub reached : n ≤ s.made
  pub none : record_in n s.records ≡ None

above_as : (m k n : ℕ) → k ≡ m → k < n → m < n
above_as m k n same above = grind (arith, same, above)

numbered_as : (s t : State) → t.records ≡ s.records → t.made ≡ s.made → IsNumbered s → IsNumbered t
numbered_as s t records made numbered = record {
  none = λ n above. ap (record_in n) records ∙ numbered.none n (above_as s.made t.made n made above);
}

less_apart : (m n : ℕ) → m < n → (m == n) ≡ false
less_apart m n above = grind (arith, nat_tests, above)

next_apart : (s : State) (q : Path) (remote : Option Base) (n : ℕ) → s.made + 1 < n → ((conflict_at s q remote).n == n) ≡ false
next_apart s q remote n above = less_apart (s.made + 1) n above

below_next : (m n : ℕ) → m + 1 < n → m < n
below_next m n above = omega (arith, above)

pub numbered-step : (s : State) (e : Event) → IsNumbered s → IsNumbered (after_event e s)
numbered-step s (Connect root token scopes) numbered = record { none = numbered.none }
numbered-step s (Edit q change) numbered = record { none = numbered.none }
numbered-step s (Sent q) numbered = record { none = numbered.none }
numbered-step s (Accepted q tag) numbered = record { none = numbered.none }
numbered-step s (Absorbed q tag) numbered = record { none = numbered.none }
numbered-step s (Held q status) numbered =
    numbered_as s (after_event (Held q status) s) (held_records status q (pending_at s q) s) (held_made status q (pending_at s q) s) numbered
numbered-step s (ConflictMade q remote) numbered = record {
  none = λ n above.
      record_in-last n s.records (conflict_at s q remote) (numbered.none n (below_next s.made n above))
      ∙ cond-false ((conflict_at s q remote).n == n) (Some (conflict_at s q remote)) None (next_apart s q remote n above);
}
numbered-step s (Pulled q base) numbered = record { none = numbered.none }
numbered-step s (Gone q) numbered = record { none = numbered.none }
numbered-step s (Settled q tag) numbered = record { none = numbered.none }
numbered-step s (Unsettled q) numbered = record { none = numbered.none }
numbered-step s (Resolved m how) numbered =
    numbered_as (dropped m s) (after_event (Resolved m how) s) (change_records (resolved_by s how m) (dropped m s))
    (change_made (resolved_by s how m) (dropped m s))
    (record { none = λ n above. record_in-still n m s.records (numbered.none n above) })

pub numbered-journal : (journal : List Event) → IsNumbered (state_of journal)
numbered-journal journal = after-holds IsNumbered numbered-step no_state journal (record { none = λ n above. refl })

reached_as : (n m k : ℕ) → k ≡ m → n ≤ m → n ≤ k
reached_as n m k same reached = grind (arith, same, reached)

past_as : (n : ℕ) (s t : State) → t.records ≡ s.records → t.made ≡ s.made → IsPast n s → IsPast n t
past_as n s t records made past = record {
  reached = reached_as n s.made t.made made past.reached;
  none = ap (record_in n) records ∙ past.none;
}

more_apart : (m n : ℕ) → n < m → (m == n) ≡ false
more_apart m n below = grind (arith, nat_tests, below)

over : (m n : ℕ) → n ≤ m → n < m + 1
over m n reached = omega (arith, reached)

not_next : (m n : ℕ) → n ≤ m → (m + 1 == n) ≡ false
not_next m n reached = more_apart (m + 1) n (over m n reached)

still_reached : (m n : ℕ) → n ≤ m → n ≤ m + 1
still_reached m n reached = omega (arith, reached)

past-step : (n : ℕ) (s : State) (e : Event) → IsPast n s → IsPast n (after_event e s)
past-step n s (Connect root token scopes) past = record { reached = past.reached; none = past.none }
past-step n s (Edit q change) past = record { reached = past.reached; none = past.none }
past-step n s (Sent q) past = record { reached = past.reached; none = past.none }
past-step n s (Accepted q tag) past = record { reached = past.reached; none = past.none }
past-step n s (Absorbed q tag) past = record { reached = past.reached; none = past.none }
past-step n s (Held q status) past =
    past_as n s (after_event (Held q status) s) (held_records status q (pending_at s q) s) (held_made status q (pending_at s q) s) past
past-step n s (ConflictMade q remote) past = record {
  reached = still_reached s.made n past.reached;
  none = record_in-last n s.records (conflict_at s q remote) past.none
      ∙ cond-false ((conflict_at s q remote).n == n) (Some (conflict_at s q remote)) None (not_next s.made n past.reached);
}
past-step n s (Pulled q base) past = record { reached = past.reached; none = past.none }
past-step n s (Gone q) past = record { reached = past.reached; none = past.none }
past-step n s (Settled q tag) past = record { reached = past.reached; none = past.none }
past-step n s (Unsettled q) past = record { reached = past.reached; none = past.none }
past-step n s (Resolved m how) past =
    past_as n (dropped m s) (after_event (Resolved m how) s) (change_records (resolved_by s how m) (dropped m s))
    (change_made (resolved_by s how m) (dropped m s))
    (record { reached = past.reached; none = record_in-still n m s.records past.none })

-- a Resolved leaves none with its number
past-resolved : (n : ℕ) (s : State) (e : Event) → resolves n s e ≡ true → n ≤ s.made → IsPast n (after_event e s)
past-resolved n s (Connect root token scopes) resolved reached = absurd (false≢true resolved)
past-resolved n s (Edit q change) resolved reached = absurd (false≢true resolved)
past-resolved n s (Sent q) resolved reached = absurd (false≢true resolved)
past-resolved n s (Accepted q tag) resolved reached = absurd (false≢true resolved)
past-resolved n s (Absorbed q tag) resolved reached = absurd (false≢true resolved)
past-resolved n s (Held q status) resolved reached = absurd (false≢true resolved)
past-resolved n s (ConflictMade q remote) resolved reached = absurd (false≢true resolved)
past-resolved n s (Pulled q base) resolved reached = absurd (false≢true resolved)
past-resolved n s (Gone q) resolved reached = absurd (false≢true resolved)
past-resolved n s (Settled q tag) resolved reached = absurd (false≢true resolved)
past-resolved n s (Unsettled q) resolved reached = absurd (false≢true resolved)
past-resolved n s (Resolved m how) resolved reached =
    past_as n (dropped m s) (after_event (Resolved m how) s) (change_records (resolved_by s how m) (dropped m s))
    (change_made (resolved_by s how m) (dropped m s))
    (record { reached = reached; none = ap (λ k. record_in n (drop_record k s.records)) (equal_numbers m n resolved) ∙ record_in-dropped n s.records })

-- ---- the laws

itself : (m : ℕ) → (m == m) ≡ true
itself m = grind (arith, nat_tests)

above_made : (m : ℕ) → m < m + 1
above_made m = omega arith

-- a conflict is there once it was made
pub record_in-made : (s : State) (q : Path) (remote : Option Base) → IsNumbered s
    → record_in (conflict_at s q remote).n (after_event (ConflictMade q remote) s).records ≡ Some (conflict_at s q remote)
record_in-made s q remote numbered =
    record_in-last (s.made + 1) s.records (conflict_at s q remote) (numbered.none (s.made + 1) (above_made s.made))
    ∙ cond-true ((conflict_at s q remote).n == (s.made + 1)) (Some (conflict_at s q remote)) None (itself (s.made + 1))

pub record-made : (past rest : List Event) (q : Path) (remote : Option Base)
    → none_such (resolves (conflict_at (state_of past) q remote).n) (after_event (ConflictMade q remote) (state_of past)) rest ≡ true
    → record_in (conflict_at (state_of past) q remote).n (state_of (past ++ ConflictMade q remote ∷ rest)).records
    ≡ Some (conflict_at (state_of past) q remote)
record-made past rest q remote none =
    let conflict = conflict_at (state_of past) q remote in
    ap (λ (s : State). record_in conflict.n s.records) (state_of-split past rest (ConflictMade q remote))
    ∙ record_in-after conflict.n conflict (after_event (ConflictMade q remote) (state_of past)) rest none
    (record_in-made (state_of past) q remote (numbered-journal past))

pub record-resolved : (past rest : List Event) (e : Event) (n : ℕ) → resolves n (state_of past) e ≡ true → n ≤ (state_of past).made
    → record_in n (state_of (past ++ e ∷ rest)).records ≡ None
record-resolved past rest e n resolved reached =
    let ended = after-holds (IsPast n) (past-step n) (after_event e (state_of past)) rest (past-resolved n (state_of past) e resolved reached) in
    ap (λ (s : State). record_in n s.records) (state_of-split past rest e) ∙ ended.none

if_none : (o : Option Conflict) (P : Type 0) → o ≡ None → IfSome o (λ r. P)
if_none None P none = tt
if_none (Some r) P none = absurd (true≢false (ap is_some none))

if_so : (o : Option Conflict) (P : Type 0) → P → IfSome o (λ r. P)
if_so None P so = tt
if_so (Some r) P so = so

pub record-numbers : (journal : List Event) (n : ℕ) → IfSome (record_in n (state_of journal).records) (λ r. n ≤ (state_of journal).made)
record-numbers journal n =
    let s = state_of journal in
    ⊎_elim
    (λ above. if_none (record_in n s.records) (n ≤ s.made) ((numbered-journal journal).none n above))
    (λ reached. if_so (record_in n s.records) (n ≤ s.made) reached)
    (cases_lt s.made n)
