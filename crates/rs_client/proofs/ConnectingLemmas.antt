-- What `connect` comes to.
use Rattle.std.proofs.Common.{◌≡◌, ℕ, ◌<◌, ◌≤◌, Bool, true, false, cond, not, ◌==◌, nat_le, ◌⊎◌, inl, inr, ⊎_elim, List, [], ◌∷◌, ◌++◌, length, Option, Some, None, is_some, Result, Ok, Err, IfSome, IfOk, refl, sym, ap, ◌∙◌, subst, arith}
use Rattle.std.specs.Option.{option_or}
use Rattle.std.proofs.lemmas.Bool.{cases_Bool, cond-true, cond-false}
use Rattle.std.proofs.lemmas.Bool.Decides.{nat_tests}
use Rattle.rs_face.specs.Courses.{Course, course, HasFailed, IsSame, IsLater}
use Rattle.rs_face.specs.Rows.{with_row}
use Rattle.rs_face.specs.Causes.{HasCause}
use Rattle.rs_face.proofs.Cited.{Rose-later}
use Rattle.rs_row.specs.declared.open_fault.OpenFault.{OpenFault}
use Rattle.rs_row.specs.RowOpenings.{OpensKeptRows}
use Rattle.rs_scope.specs.declared.scope.Scope.{Scope}
use Rattle.rs_talk.specs.Roots.{Root}
use Rattle.rs_cache.specs.declared.cache_fault.CacheFault.{CacheFault}
use Rattle.rs_cache.specs.declared.cache_fault.CacheFault.TheVariants as cache
use Rattle.rs_cache.specs.declared.event.Event.{Event}
use Rattle.rs_cache.specs.declared.event.Event.TheVariants.{Connect}
use Rattle.rs_cache.specs.States.{State, no_state}
use Rattle.rs_cache.specs.ClientRows.{event_refusal, IsStateOf}
use Rattle.rs_cache.specs.EventRows.{event_row}
use Rattle.rs_cache.specs.Noting.{NotNoted, Notes}
use Rattle.rs_cache.specs.Refusals.{connect_refusal, full_refusal}
use Rattle.rs_cache.proofs.Cited.{made-none, made-more, made-rows}
use Rattle.rs_client.specs.declared.client_fault.ClientFault.{ClientFault}
use Rattle.rs_client.specs.declared.client_fault.ClientFault.TheVariants as client
use Rattle.rs_client.specs.Causes.{client_fault}
use Rattle.rs_client.specs.Clients.{IsClient, IsUnopened}
use Rattle.rs_client.specs.Connecting.{Begins, ConnectsOver, Connects}
use Rattle.rs_client.proofs.AddingLemmas.{not_noted, why_not, failed_by, err_is}

no_rows : (rows : List (List ℕ)) → length rows ≡ 0 → rows ≡ []
no_rows [] none = refl
no_rows (row ∷ rows) none = absurd (omega (arith, none))

-- what `connect` is refused for, where it is known whether there are rows
known : (s : State) (some : Bool) → not (s.rows == 0) ≡ some → connect_refusal s ≡ option_or (cond some (Some cache.Connected) None) (full_refusal s)
known s some is = ap (λ b. option_or (cond b (Some cache.Connected) None) (full_refusal s)) is

rows_none : (n : ℕ) → not (n == 0) ≡ false → n ≡ 0
rows_none n is = grind (arith, nat_tests, is)

-- without rows there is room
not_full : (s : State) → not (s.rows == 0) ≡ false → full_refusal s ≡ None
not_full s is =
    let none = rows_none s.rows is in
    let room : nat_le 4294967295 s.rows ≡ false = grind (arith, nat_tests, none) in
    cond-false (nat_le 4294967295 s.rows) (Some cache.JournalFull) None room

some_connected : (fault : CacheFault) → Some cache.Connected ≡ Some fault → fault ≡ cache.Connected
some_connected fault is = cc

-- a connection is refused where there are rows, and for nothing else
connected_by : (s : State) (fault : CacheFault) (some : Bool) → not (s.rows == 0) ≡ some → connect_refusal s ≡ Some fault
    → (fault ≡ cache.Connected) × (not (s.rows == 0) ≡ true)
connected_by s fault true is refusal = (some_connected fault (sym (known s true is) ∙ refusal), is)
connected_by s fault false is refusal = let here = sym (not_full s is) ∙ (sym (known s false is) ∙ refusal) in absurd (cc)

-- a connection that nothing refuses comes to no rows
free_by : (s : State) (some : Bool) → not (s.rows == 0) ≡ some → connect_refusal s ≡ None → s.rows ≡ 0
free_by s true is refusal = let here = sym (known s true is) ∙ refusal in absurd (cc)
free_by s false is refusal = rows_none s.rows is

module _ {S : Type 0} (told : S → Option (List (List ℕ))) (faults : S → ℕ) (first mid last : S) (root : Root) (token : List ℕ) (scopes : List Scope) where
  -- the client of no rows is connected
  pub begun : (s now : State) → IfSome (told first) (OpensKeptRows event_refusal IsStateOf (Ok s)) → told mid ≡ told first → faults first ≤ faults mid
      → Notes (connect_refusal s) (Connect root token scopes) s now (course told faults mid last) (Ok tt) → faults mid ≤ faults last
      → Connects root token scopes (course told faults first last) (Ok tt)
  begun s now opened same before notes later = record {
    told = over (told first) refl opened;
    same = tt;
    later = omega (arith, before, later);
    cause = λ is. absurd (cc);
  }
    where
      over : (o : Option (List (List ℕ))) → told first ≡ o → IfSome o (OpensKeptRows event_refusal IsStateOf (Ok s))
          → IfSome o (ConnectsOver (Connect root token scopes) (course told faults first last) (Ok tt))
      over None is given = tt
      over (Some rows) is given =
          let empty = no_rows rows (sym (made-rows s rows given.1) ∙ free_by s (not (s.rows == 0)) refl notes.0) in
          record {
            empty = empty;
            row = notes.1.row ∙ ap (λ o. with_row o (event_row (Connect root token scopes))) (same ∙ (is ∙ ap (λ rs. Some rs) empty));
            made = made-more no_state [] (event_row (Connect root token scopes)) (Connect root token scopes) made-none notes.1.back refl;
          }

  -- the client is connected already, or the keeper failed, or memory ran out
  pub unbegun : (s now : State) (fault : CacheFault) (result : Result (Unit {0}) ClientFault) → result ≡ Err (client_fault fault)
      → IfSome (told first) (OpensKeptRows event_refusal IsStateOf (Ok s)) → told mid ≡ told first → faults first ≤ faults mid
      → is_some s.connection ≡ not (s.rows == 0)
      → Notes (connect_refusal s) (Connect root token scopes) s now (course told faults mid last) (Err fault) → faults mid ≤ faults last
      → Connects root token scopes (course told faults first last) result
  unbegun s now fault result is opened same before connected notes later =
      let it = course told faults mid last in
      let refusal = connect_refusal s in
      let event = Connect root token scopes in
      subst (Connects root token scopes (course told faults first last)) (sym is) (record {
        told = over (told first) opened;
        same = (not_noted refusal event s now it fault notes).same ∙ same;
        later = omega (arith, before, later);
        cause = λ failed. Rose-later (faults first) (faults mid) (faults last) before
            (failed_by refusal event s now it fault notes (err_is (client_fault fault) client.KeeperFailed (Err (client_fault fault)) refl failed));
      })
    where
      over : (o : Option (List (List ℕ))) → IfSome o (OpensKeptRows event_refusal IsStateOf (Ok s))
          → IfSome o (ConnectsOver (Connect root token scopes) (course told faults first last) (Err (client_fault fault)))
      over None given = tt
      over (Some rows) given =
          ⊎_elim
          (λ refused. let why = connected_by s fault (not (s.rows == 0)) refl refused in
          subst (λ f. ConnectsOver (Connect root token scopes) (course told faults first last) (Err (client_fault f)) rows) (sym why.0)
          (s, record { opens = given.0; made = given.1; connected = connected ∙ why.1 }))
          (λ other. ⊎_elim
          (λ failed. subst (λ f. ConnectsOver (Connect root token scopes) (course told faults first last) (Err (client_fault f)) rows) (sym failed.0)
          (Rose-later (faults first) (faults mid) (faults last) before failed.1))
          (λ none. subst (λ f. ConnectsOver (Connect root token scopes) (course told faults first last) (Err (client_fault f)) rows) (sym none) tt)
          other)
          (why_not (connect_refusal s) (Connect root token scopes) s now (course told faults mid last) fault notes)
