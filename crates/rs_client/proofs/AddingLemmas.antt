-- What a command comes to that opens a client and then adds an event.
use Rattle.std.proofs.Common.{◌≡◌, ℕ, ◌≤◌, Bool, true, false, cond, not, ◌==◌, nat_le, ◌⊎◌, inl, inr, ⊎_elim, List, [], ◌∷◌, ◌++◌, length, Option, Some, None, option_map, is_some, Result, Ok, Err, IfSome, IfOk, IsErrOf, IsErrAnd, refl, sym, ap, ◌∙◌, subst, arith}
use Rattle.std.specs.Option.{option_or}
use Rattle.rs_face.specs.Courses.{Course, course, HasFailed, IsSame, IsLater}
use Rattle.rs_face.specs.Rows.{with_row}
use Rattle.rs_face.proofs.Cited.{Rose-later}
use Rattle.rs_path.specs.Paths.{Path}
use Rattle.rs_talk.specs.declared.change.Change.TheVariants.{Put}
use Rattle.rs_cache.specs.declared.cache_fault.CacheFault.{CacheFault}
use Rattle.rs_cache.specs.declared.cache_fault.CacheFault.TheVariants as cache
use Rattle.rs_cache.specs.declared.event.Event.{Event}
use Rattle.rs_cache.specs.declared.event.Event.TheVariants.{Edit}
use Rattle.rs_cache.specs.States.{State}
use Rattle.rs_cache.specs.EventRows.{event_row}
use Rattle.rs_cache.specs.Noting.{IsNoted, NotNoted, Notes}
use Rattle.rs_cache.specs.Places.{may_come}
use Rattle.rs_cache.specs.Refusals.{edit_refusal}
use Rattle.rs_cache.proofs.Cited.{made-more}
use Rattle.rs_client.specs.declared.client_fault.ClientFault.{ClientFault}
use Rattle.rs_client.specs.declared.client_fault.ClientFault.TheVariants as client
use Rattle.rs_client.specs.Causes.{client_fault}
use Rattle.rs_client.specs.Clients.{IsClient, IsUnopened}
use Rattle.rs_client.specs.Showings.{ShowsOver, ShowsState}
use Rattle.rs_client.specs.Additions.{Adds, IsRefused, AddsOver, AddsEvent}

-- ---- what a call that notes an event was refused for

-- nothing was noted after a fault
pub not_noted : (refusal : Option CacheFault) (event : Event) (s now : State) (rows : Course (List (List ℕ))) (fault : CacheFault)
    → Notes refusal event s now rows (Err fault) → NotNoted s now rows
not_noted refusal event s now rows cache.Connected notes = notes.1
not_noted refusal event s now rows (cache.Clash path) notes = notes.1
not_noted refusal event s now rows (cache.NotThere path) notes = notes.1
not_noted refusal event s now rows (cache.OutOfScope path) notes = notes.1
not_noted refusal event s now rows (cache.NoConflict n) notes = notes.1
not_noted refusal event s now rows cache.JournalFull notes = notes.1
not_noted refusal event s now rows cache.KeeperFailed notes = notes.2
not_noted refusal event s now rows cache.NoMemory notes = notes

-- the fault is what the call is refused for, or a failure of the keeper, or want of memory
pub why_not : (refusal : Option CacheFault) (event : Event) (s now : State) (rows : Course (List (List ℕ))) (fault : CacheFault)
    → Notes refusal event s now rows (Err fault) → (refusal ≡ Some fault) ⊎ (((fault ≡ cache.KeeperFailed) × HasFailed rows) ⊎ (fault ≡ cache.NoMemory))
why_not refusal event s now rows cache.Connected notes = inl notes.0
why_not refusal event s now rows (cache.Clash path) notes = inl notes.0
why_not refusal event s now rows (cache.NotThere path) notes = inl notes.0
why_not refusal event s now rows (cache.OutOfScope path) notes = inl notes.0
why_not refusal event s now rows (cache.NoConflict n) notes = inl notes.0
why_not refusal event s now rows cache.JournalFull notes = inl notes.0
why_not refusal event s now rows cache.KeeperFailed notes = inr (inl (refl, notes.1))
why_not refusal event s now rows cache.NoMemory notes = inr (inr refl)

-- only the keeper's failure is told as one
pub failed_by : (refusal : Option CacheFault) (event : Event) (s now : State) (rows : Course (List (List ℕ))) (fault : CacheFault)
    → Notes refusal event s now rows (Err fault) → client_fault fault ≡ client.KeeperFailed → HasFailed rows
failed_by refusal event s now rows cache.Connected notes is = absurd (cc)
failed_by refusal event s now rows (cache.Clash path) notes is = absurd (cc)
failed_by refusal event s now rows (cache.NotThere path) notes is = absurd (cc)
failed_by refusal event s now rows (cache.OutOfScope path) notes is = absurd (cc)
failed_by refusal event s now rows (cache.NoConflict n) notes is = absurd (cc)
failed_by refusal event s now rows cache.JournalFull notes is = absurd (cc)
failed_by refusal event s now rows cache.KeeperFailed notes is = notes.1
failed_by refusal event s now rows cache.NoMemory notes is = absurd (cc)

pub err_is : (a b : ClientFault) (r : Result (Unit {0}) ClientFault) → r ≡ Err a → r ≡ Err b → a ≡ b
err_is a b r one other = cc

-- what a fault is told as, where it is known as that
pub told_as : {A : Type 0} (fault : ClientFault) (result : Result A ClientFault) → IsErrAnd result (λ e. e ≡ fault) → result ≡ Err fault
told_as fault (Ok value) is = absurd is
told_as fault (Err e) is = cc

module _ {S : Type 0} (told : S → Option (List (List ℕ))) (faults : S → ℕ) (first mid : S) where
  -- a command that shows something of the client that was opened
  pub shown : {A : Type 0} (answer : State → Option A) (s : State) (value : A) → answer s ≡ Some value → ShowsState Some (course told faults first mid) (Ok s)
      → ShowsState answer (course told faults first mid) (Ok value)
  shown answer s value is shows = record {
    told = over (told first) shows.told;
    same = shows.same;
    later = shows.later;
    cause = λ failed. absurd (cc);
  }
    where
      over : (o : Option (List (List ℕ))) → IfSome o (ShowsOver Some (course told faults first mid) (Ok s))
          → IfSome o (ShowsOver answer (course told faults first mid) (Ok value))
      over None given = tt
      over (Some rows) given = let here : given.0 ≡ s = cc in (given.0, given.1, ap answer here ∙ is)

  -- there was no memory for what it shows
  pub unshown : {A : Type 0} (answer : State → Option A) (s : State) (result : Result A ClientFault) → result ≡ Err client.NoMemory
      → ShowsState Some (course told faults first mid) (Ok s) → ShowsState answer (course told faults first mid) result
  unshown answer s result is shows = subst (ShowsState answer (course told faults first mid)) (sym is) (record {
    told = over (told first);
    same = shows.same;
    later = shows.later;
    cause = λ failed. absurd (cc);
  })
    where
      over : (o : Option (List (List ℕ))) → IfSome o (ShowsOver answer (course told faults first mid) (Err client.NoMemory))
      over None = tt
      over (Some rows) = tt

module _ {S : Type 0} (told : S → Option (List (List ℕ))) (faults : S → ℕ) (first mid last : S) where
  -- the client that was opened is the one of the rows
  pub adds : (refusal : State → Option CacheFault) (event : Event) (s now : State) (rows : List (List ℕ)) → told first ≡ Some rows
      → ShowsOver Some (course told faults first mid) (Ok s) rows → told mid ≡ told first
      → Notes (refusal s) event s now (course told faults mid last) (Ok tt) → Adds refusal event (course told faults first last) rows
  adds refusal event s now rows is shows same notes =
      let here : shows.0 ≡ s = cc in
      record {
        state = shows.0;
        client = shows.1;
        allowed = ap refusal here ∙ notes.0;
        row = notes.1.row ∙ ap (λ o. with_row o (event_row event)) (same ∙ is);
        made = made-more shows.0 rows (event_row event) event shows.1.made notes.1.back (subst (λ t. may_come t event ≡ true) (sym here) notes.1.may);
      }

  pub refuses : (refusal : State → Option CacheFault) (event : Event) (s now : State) (fault : CacheFault) (rows : List (List ℕ))
      → ShowsOver Some (course told faults first mid) (Ok s) rows → faults first ≤ faults mid
      → Notes (refusal s) event s now (course told faults mid last) (Err fault)
      → IsRefused refusal (client_fault fault) rows ⊎ IsUnopened (client_fault fault) (course told faults first last) rows
  refuses refusal event s now fault rows shows later notes =
      let here : shows.0 ≡ s = cc in
      ⊎_elim
      (λ refused. inl (record { state = shows.0; client = shows.1; refused = ap (option_map client_fault) (ap refusal here ∙ refused) }))
      (λ other. ⊎_elim
      (λ failed. inr (subst (λ f. IsUnopened (client_fault f) (course told faults first last) rows) (sym failed.0)
      (Rose-later (faults first) (faults mid) (faults last) later failed.1)))
      (λ none. inr (subst (λ f. IsUnopened (client_fault f) (course told faults first last) rows) (sym none) tt))
      other)
      (why_not (refusal s) event s now (course told faults mid last) fault notes)

  -- an event that was added over a client that was opened
  pub added : (refusal : State → Option CacheFault) (event : Event) (s now : State) → ShowsState Some (course told faults first mid) (Ok s)
      → Notes (refusal s) event s now (course told faults mid last) (Ok tt) → faults mid ≤ faults last
      → AddsEvent refusal event (course told faults first last) (Ok tt)
  added refusal event s now shows notes later = record {
    told = over (told first) refl shows.told;
    same = tt;
    later = let before = shows.later in omega (arith, before, later);
    cause = λ is. absurd (cc);
  }
    where
      over : (o : Option (List (List ℕ))) → told first ≡ o → IfSome o (ShowsOver Some (course told faults first mid) (Ok s))
          → IfSome o (AddsOver refusal event (course told faults first last) (Ok tt))
      over None is given = tt
      over (Some rows) is given = adds refusal event s now rows is given shows.same notes

  -- an event that was refused over a client that was opened
  pub refused : (refusal : State → Option CacheFault) (event : Event) (s now : State) (fault : CacheFault) (result : Result (Unit {0}) ClientFault)
      → result ≡ Err (client_fault fault) → ShowsState Some (course told faults first mid) (Ok s)
      → Notes (refusal s) event s now (course told faults mid last) (Err fault) → faults mid ≤ faults last
      → AddsEvent refusal event (course told faults first last) result
  refused refusal event s now fault result is shows notes later = subst (AddsEvent refusal event (course told faults first last)) (sym is) (record {
    told = over (told first) shows.told;
    same = (not_noted (refusal s) event s now (course told faults mid last) fault notes).same ∙ shows.same;
    later = let before = shows.later in omega (arith, before, later);
    cause = λ failed. Rose-later (faults first) (faults mid) (faults last) shows.later
        (failed_by (refusal s) event s now (course told faults mid last) fault notes (err_is (client_fault fault) client.KeeperFailed (Err (client_fault fault)) refl failed));
  })
    where
      over : (o : Option (List (List ℕ))) → IfSome o (ShowsOver Some (course told faults first mid) (Ok s))
          → IfSome o (AddsOver refusal event (course told faults first last) (Err (client_fault fault)))
      over None given = tt
      over (Some rows) given = refuses refusal event s now fault rows given shows.later notes
