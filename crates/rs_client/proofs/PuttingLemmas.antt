-- What `put` comes to.
use Rattle.std.proofs.Common.{◌≡◌, ℕ, ◌≤◌, ◌⊎◌, inl, inr, ⊎_elim, List, length, Option, Some, None, Result, Ok, Err, IfSome, IfErr, refl, sym, ap, ◌∙◌, subst, arith}
use Rattle.rs_face.specs.Courses.{Course, course, HasFailed, IsSame, IsLater}
use Rattle.rs_face.proofs.Cited.{Rose-later}
use Rattle.rs_path.specs.Paths.{Path}
use Rattle.rs_talk.specs.declared.change.Change.TheVariants.{Put}
use Rattle.rs_cache.specs.declared.cache_fault.CacheFault.{CacheFault}
use Rattle.rs_cache.specs.declared.cache_fault.CacheFault.TheVariants as cache
use Rattle.rs_cache.specs.declared.event.Event.TheVariants.{Edit}
use Rattle.rs_cache.specs.States.{State}
use Rattle.rs_cache.specs.Noting.{Notes}
use Rattle.rs_cache.specs.Refusals.{edit_refusal}
use Rattle.rs_client.specs.declared.client_fault.ClientFault.{ClientFault}
use Rattle.rs_client.specs.declared.client_fault.ClientFault.TheVariants.{BadRow, Unlawful, Connected, NotConnected, SourceFailed, TooLong, OutOfScope, Clash, NotThere, NoConflict, JournalFull, KeeperFailed, NoMemory}
use Rattle.rs_client.specs.Causes.{client_fault}
use Rattle.rs_client.specs.Clients.{IsClient, IsUnopened, IsOpening}
use Rattle.rs_client.specs.Showings.{ShowsOver, ShowsState}
use Rattle.rs_client.specs.Additions.{IsRefused}
use Rattle.rs_client.specs.Putting.{IsRead, IsRefusedEdit, PutsOver, SourceEnds, Puts}
use Rattle.rs_client.specs.Reading.{ReadsBy, ReadsBody}
use Rattle.rs_client.proofs.AddingLemmas.{not_noted, failed_by, err_is, adds, refuses}

-- ---- no client was opened

unopened_over : (path : Path) (kind : List ℕ) (it : Course (List (List ℕ))) (source : Course (List ℕ)) (fault : ClientFault) (rows : List (List ℕ)) → IsOpening fault
    → ShowsOver {A = State} Some it (Err fault) rows → PutsOver path kind it source (Err fault) rows
unopened_over path kind it source (BadRow index place) rows opening shows = inr shows
unopened_over path kind it source (Unlawful index) rows opening shows = inr shows
unopened_over path kind it source Connected rows opening shows = absurd opening
unopened_over path kind it source NotConnected rows opening shows = inr shows
unopened_over path kind it source SourceFailed rows opening shows = absurd opening
unopened_over path kind it source TooLong rows opening shows = absurd opening
unopened_over path kind it source OutOfScope rows opening shows = absurd opening
unopened_over path kind it source (Clash other) rows opening shows = absurd opening
unopened_over path kind it source NotThere rows opening shows = absurd opening
unopened_over path kind it source (NoConflict n) rows opening shows = absurd opening
unopened_over path kind it source JournalFull rows opening shows = absurd opening
unopened_over path kind it source KeeperFailed rows opening shows = inr shows
unopened_over path kind it source NoMemory rows opening shows = inr shows

-- the source is as it was then
unopened_ends : {T : Type 0} (left : T → Option (List ℕ)) (lost : T → ℕ) (s : T) (fault : ClientFault) → IsOpening fault → SourceEnds fault (course left lost s s)
unopened_ends left lost s (BadRow index place) opening = (refl, refl)
unopened_ends left lost s (Unlawful index) opening = (refl, refl)
unopened_ends left lost s Connected opening = absurd opening
unopened_ends left lost s NotConnected opening = (refl, refl)
unopened_ends left lost s SourceFailed opening = absurd opening
unopened_ends left lost s TooLong opening = absurd opening
unopened_ends left lost s OutOfScope opening = absurd opening
unopened_ends left lost s (Clash other) opening = absurd opening
unopened_ends left lost s NotThere opening = absurd opening
unopened_ends left lost s (NoConflict n) opening = absurd opening
unopened_ends left lost s JournalFull opening = absurd opening
unopened_ends left lost s KeeperFailed opening = tt
unopened_ends left lost s NoMemory opening = tt

-- ---- the source wasn't read

unread_over : (path : Path) (kind : List ℕ) (it : Course (List (List ℕ))) (source : Course (List ℕ)) (fault : ClientFault) (s : State) (rows : List (List ℕ)) → IsClient s rows
    → ReadsBy source (Err fault) → PutsOver path kind it source (Err fault) rows
unread_over path kind it source (BadRow index place) s rows client reads = absurd reads
unread_over path kind it source (Unlawful index) s rows client reads = absurd reads
unread_over path kind it source Connected s rows client reads = absurd reads
unread_over path kind it source NotConnected s rows client reads = absurd reads
unread_over path kind it source SourceFailed s rows client reads = (s, client)
unread_over path kind it source TooLong s rows client reads = (s, client)
unread_over path kind it source OutOfScope s rows client reads = absurd reads
unread_over path kind it source (Clash other) s rows client reads = absurd reads
unread_over path kind it source NotThere s rows client reads = absurd reads
unread_over path kind it source (NoConflict n) s rows client reads = absurd reads
unread_over path kind it source JournalFull s rows client reads = absurd reads
unread_over path kind it source KeeperFailed s rows client reads = absurd reads
unread_over path kind it source NoMemory s rows client reads = inr tt

unread_ends : (source : Course (List ℕ)) (fault : ClientFault) → ReadsBy source (Err fault) → SourceEnds fault source
unread_ends source (BadRow index place) reads = absurd reads
unread_ends source (Unlawful index) reads = absurd reads
unread_ends source Connected reads = tt
unread_ends source NotConnected reads = absurd reads
unread_ends source SourceFailed reads = reads
unread_ends source TooLong reads = reads
unread_ends source OutOfScope reads = tt
unread_ends source (Clash other) reads = tt
unread_ends source NotThere reads = tt
unread_ends source (NoConflict n) reads = tt
unread_ends source JournalFull reads = tt
unread_ends source KeeperFailed reads = tt
unread_ends source NoMemory reads = tt

unread_keeper : (source : Course (List ℕ)) (fault : ClientFault) → fault ≡ KeeperFailed → ReadsBy source (Err fault) → ⊥
unread_keeper source fault is reads = subst (λ f. ReadsBy source (Err f)) is reads

-- ---- the client refused the edit

refused_over : (path : Path) (kind : List ℕ) (it : Course (List (List ℕ))) (source : Course (List ℕ)) (fault : CacheFault) (rows : List (List ℕ))
    → IsRefusedEdit path source (client_fault fault) rows ⊎ IsUnopened (client_fault fault) it rows → PutsOver path kind it source (Err (client_fault fault)) rows
refused_over path kind it source cache.Connected rows why = why
refused_over path kind it source (cache.Clash other) rows why = why
refused_over path kind it source (cache.NotThere other) rows why = why
refused_over path kind it source (cache.OutOfScope other) rows why = why
refused_over path kind it source (cache.NoConflict n) rows why = why
refused_over path kind it source cache.JournalFull rows why = why
refused_over path kind it source cache.KeeperFailed rows why = why
refused_over path kind it source cache.NoMemory rows why = why

refused_ends : (source : Course (List ℕ)) (fault : CacheFault) → SourceEnds (client_fault fault) source
refused_ends source cache.Connected = tt
refused_ends source (cache.Clash other) = tt
refused_ends source (cache.NotThere other) = tt
refused_ends source (cache.OutOfScope other) = tt
refused_ends source (cache.NoConflict n) = tt
refused_ends source cache.JournalFull = tt
refused_ends source cache.KeeperFailed = tt
refused_ends source cache.NoMemory = tt

module _ {S T : Type 0} (told : S → Option (List (List ℕ))) (faults : S → ℕ) (first mid last : S) (left : T → Option (List ℕ)) (lost : T → ℕ) (from until : T) (path : Path) (kind : List ℕ) where
  pub unopened : (fault : ClientFault) (result : Result (Unit {0}) ClientFault) → result ≡ Err fault → ShowsState {A = State} Some (course told faults first mid) (Err fault) → IsOpening fault
      → Puts path kind (course told faults first mid) (course left lost from from) result
  unopened fault result is shows opening = subst (Puts path kind (course told faults first mid) (course left lost from from)) (sym is) (record {
    told = over (told first) shows.told;
    same = shows.same;
    later = shows.later;
    cause = λ failed. shows.cause (ap (λ f. Err f) (err_is fault KeeperFailed (Err fault) refl failed));
    ends = unopened_ends left lost from fault opening;
    read = omega arith;
  })
    where
      over : (o : Option (List (List ℕ))) → IfSome o (ShowsOver {A = State} Some (course told faults first mid) (Err fault))
          → IfSome o (PutsOver path kind (course told faults first mid) (course left lost from from) (Err fault))
      over None given = tt
      over (Some rows) given = unopened_over path kind (course told faults first mid) (course left lost from from) fault rows opening given

  pub unread : (s : State) (fault : ClientFault) (result : Result (Unit {0}) ClientFault) → result ≡ Err fault → ShowsState Some (course told faults first mid) (Ok s)
      → ReadsBody (course left lost from until) (Err fault) → Puts path kind (course told faults first mid) (course left lost from until) result
  unread s fault result is shows reads = subst (Puts path kind (course told faults first mid) (course left lost from until)) (sym is) (record {
    told = over (told first) shows.told;
    same = shows.same;
    later = shows.later;
    cause = λ failed. absurd (unread_keeper (course left lost from until) fault (err_is fault KeeperFailed (Err fault) refl failed) reads.reads);
    ends = unread_ends (course left lost from until) fault reads.reads;
    read = reads.later;
  })
    where
      over : (o : Option (List (List ℕ))) → IfSome o (ShowsOver Some (course told faults first mid) (Ok s))
          → IfSome o (PutsOver path kind (course told faults first mid) (course left lost from until) (Err fault))
      over None given = tt
      over (Some rows) given = unread_over path kind (course told faults first mid) (course left lost from until) fault given.0 rows given.1 reads.reads

  pub unput : (s now : State) (body : List ℕ) (fault : CacheFault) (result : Result (Unit {0}) ClientFault) → result ≡ Err (client_fault fault)
      → ShowsState Some (course told faults first mid) (Ok s) → ReadsBody (course left lost from until) (Ok body)
      → Notes (edit_refusal s path) (Edit path (Put kind body)) s now (course told faults mid last) (Err fault) → faults mid ≤ faults last
      → Puts path kind (course told faults first last) (course left lost from until) result
  unput s now body fault result is shows reads notes later =
      let refusal = edit_refusal s path in
      let event = Edit path (Put kind body) in
      let it = course told faults mid last in
      let before = shows.later in
      subst (Puts path kind (course told faults first last) (course left lost from until)) (sym is) (record {
        told = over (told first) shows.told;
        same = (not_noted refusal event s now it fault notes).same ∙ shows.same;
        later = omega (arith, before, later);
        cause = λ failed. Rose-later (faults first) (faults mid) (faults last) before
            (failed_by refusal event s now it fault notes (err_is (client_fault fault) KeeperFailed (Err (client_fault fault)) refl failed));
        ends = refused_ends (course left lost from until) fault;
        read = reads.later;
      })
    where
      over : (o : Option (List (List ℕ))) → IfSome o (ShowsOver Some (course told faults first mid) (Ok s))
          → IfSome o (PutsOver path kind (course told faults first last) (course left lost from until) (Err (client_fault fault)))
      over None given = tt
      over (Some rows) given = refused_over path kind (course told faults first last) (course left lost from until) fault rows
          (⊎_elim (λ refused. inl (record { body = body; read = reads.reads; refused = refused })) (λ other. inr other)
          (refuses told faults first mid last (λ t. edit_refusal t path) (Edit path (Put kind body)) s now fault rows given shows.later notes))

  pub put_in : (s now : State) (body : List ℕ) → ShowsState Some (course told faults first mid) (Ok s) → ReadsBody (course left lost from until) (Ok body)
      → Notes (edit_refusal s path) (Edit path (Put kind body)) s now (course told faults mid last) (Ok tt) → faults mid ≤ faults last
      → Puts path kind (course told faults first last) (course left lost from until) (Ok tt)
  put_in s now body shows reads notes later = record {
    told = over (told first) refl shows.told;
    same = tt;
    later = let before = shows.later in omega (arith, before, later);
    cause = λ failed. absurd (cc);
    ends = tt;
    read = reads.later;
  }
    where
      over : (o : Option (List (List ℕ))) → told first ≡ o → IfSome o (ShowsOver Some (course told faults first mid) (Ok s))
          → IfSome o (PutsOver path kind (course told faults first last) (course left lost from until) (Ok tt))
      over None is given = tt
      over (Some rows) is given = (body, reads.reads, adds told faults first mid last (λ t. edit_refusal t path) (Edit path (Put kind body)) s now rows is given shows.same notes)
