-- A Grant where the token isn't granted.
use Rattle.std.proofs.Common.{◌≡◌, ℕ, ◌≤◌, inr, false, List, Option, Some, None, is_some, OnOk, Result, Ok, Err, refl}
use Rattle.rs_face.proofs.Cited.{Rose-later}
use Rattle.rs_scope.specs.declared.scope.Scope.{Scope}
use Rattle.rs_record.specs.declared.records.Record.TheVariants.{Grant as GrantRecord}
use Rattle.rs_rules.specs.declared.request.Request.{Request}
use Rattle.rs_rules.specs.declared.request.Request.TheVariants.{Grant}
use Rattle.rs_rules.specs.Contents.{Contents}
use Rattle.rs_rules.specs.Histories.{History, with_entry}
use Rattle.rs_rules.specs.Tokens.{scopes_of}
use Rattle.rs_user.specs.declared.state.UserState.{UserState}
use Rattle.rs_user.specs.Standing.{StandsFor}
use Rattle.rs_cli.specs.declared.request_fault.RequestFault.{RequestFault}
use Rattle.rs_cli.specs.declared.request_fault.RequestFault.TheVariants as asked
use Rattle.rs_cli.specs.Grants.{RequestFails}
use Rattle.rs_face.specs.Courses.{Course, course}
use Rattle.rs_cli.specs.Asking.{Asks, after_request}
use Rattle.rs_cli.specs.Pipes.{IsOpenState, GrantsWhereMissing}

is_none : {A : Type 0} (o : Option A) → is_some o ≡ false → o ≡ None
is_none None isnt = refl
is_none (Some x) isnt = cc

module _ {T R : Type 0} (tree_stands : T → Contents → Type 0) where
  -- the Grant was asked for
  pub grants_missing : (h : History) (token : List ℕ) (scopes : List Scope) (rows : Course (List (List ℕ))) (before count quota : ℕ) (old new : UserState T R)
      (result : Result (Unit {0}) RequestFault)
      → is_some (scopes_of h token) ≡ false → IsOpenState tree_stands rows.old before quota old h
      → Asks h (Grant token scopes) token rows result → OnOk result (StandsFor tree_stands new (after_request h (Grant token scopes)))
      → count ≡ new.rows → new.quota ≡ quota
      → GrantsWhereMissing tree_stands h token scopes rows count quota new result
  grants_missing h token scopes rows before count quota old new (Ok done) is ready has stands counted quota_is = record {
    first = with_entry h (record { who = 1; what = GrantRecord token scopes });
    begins = inr (has.answered, refl);
    ready = record {
      stands = stands;
      spells = has.spells ready.spells;
      counted = counted;
      quota_is = quota_is;
    };
  }
  grants_missing h token scopes rows before count quota old new (Err fault) is ready asks stands counted quota_is =
      (asks.0, is_none (scopes_of h token) is, asks.1)

-- a request was refused after the keeper had been opened
pub fails_since : {K : Type 0} (rows : K → Option (List (List ℕ))) (faults : K → ℕ) (first middle last : K) (h : History) (r : Request) (token : List ℕ)
    (fault : RequestFault) → faults first ≤ faults middle → RequestFails h r token (course rows faults middle last) fault
    → RequestFails h r token (course rows faults first last) fault
fails_since rows faults first middle last h r token asked.NotGranted sooner fails = fails
fails_since rows faults first middle last h r token asked.RecordsFull sooner fails = fails
fails_since rows faults first middle last h r token (asked.TokenTaken taken) sooner fails = fails
fails_since rows faults first middle last h r token asked.KeeperFailed sooner fails =
    Rose-later (faults first) (faults middle) (faults last) sooner fails
fails_since rows faults first middle last h r token asked.NoMemory sooner fails = fails
