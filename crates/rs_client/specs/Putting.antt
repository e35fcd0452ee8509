-- What `put` comes to: the source, up to its end, is the body.
use Rattle.std.specs.Prelude.{◌≡◌, ◌<◌, ◌≤◌, ℕ, ◌⊎◌, List, [], length, Result, Ok, Err, IfSome, IfErr, OnErr, IsErrOf}
use Rattle.rs_face.specs.Courses.{Course, HasFailed, IsSame, IsLater, IsUntouched}
use Rattle.rs_path.specs.Limits.{max_body}
use Rattle.rs_path.specs.Paths.{Path}
use Rattle.rs_talk.specs.declared.change.Change.TheVariants.{Put}
use Rattle.rs_cache.specs.declared.event.Event.TheVariants.{Edit}
use Rattle.rs_cache.specs.States.{State}
use Rattle.rs_cache.specs.Refusals.{edit_refusal}
use Rattle.rs_client.specs.declared.client_fault.ClientFault.{ClientFault}
use Rattle.rs_client.specs.declared.client_fault.ClientFault.TheVariants.{BadRow, Unlawful, NotConnected, SourceFailed, TooLong, KeeperFailed}
use Rattle.rs_client.specs.Clients.{IsClient, IsUnopened}
use Rattle.rs_client.specs.Additions.{Adds, IsRefused}

-- the source is at its end, and what was left of it is this body, within the limit of an edit
pub record IsRead (body : List ℕ) (source : Course (List ℕ)) : Type 0 where
  pub all : IfSome source.old (λ left. left ≡ body)
  pub ended : IfSome source.new (λ left. left ≡ [])
  pub short : length body ≤ max_body

-- the body was read, and the client of the rows refuses the edit
pub record IsRefusedEdit (path : Path) (source : Course (List ℕ)) (fault : ClientFault) (rows : List (List ℕ)) : Type 0 where
  pub body : List ℕ
  pub read : IsRead body source
  pub refused : IsRefused (λ s. edit_refusal s path) fault rows

-- over these rows, with the source
abbrev pub PutsOver : Path → List ℕ → Course (List (List ℕ)) → Course (List ℕ) → Result (Unit {0}) ClientFault → List (List ℕ) → Type 0
PutsOver path kind it source (Ok done) rows =
    (body : List ℕ) × IsRead body source × Adds (λ s. edit_refusal s path) (Edit path (Put kind body)) it rows
PutsOver path kind it source (Err SourceFailed) rows = (s : State) × IsClient s rows
PutsOver path kind it source (Err TooLong) rows = (s : State) × IsClient s rows
PutsOver path kind it source (Err fault) rows = IsRefusedEdit path source fault rows ⊎ IsUnopened fault it rows

-- what the source came to: it failed, or more is left of it than an edit may have; where no client was opened it is
-- untouched
abbrev pub SourceEnds : ClientFault → Course (List ℕ) → Type 0
SourceEnds SourceFailed source = HasFailed source
SourceEnds TooLong source = IfSome source.old (λ left. max_body < length left)
SourceEnds (BadRow index place) source = IsUntouched source
SourceEnds (Unlawful index) source = IsUntouched source
SourceEnds NotConnected source = IsUntouched source
SourceEnds fault source = Unit {0}

-- over a keeper and a source: where the event wasn't added the rows are as before
pub record Puts (path : Path) (kind : List ℕ) (it : Course (List (List ℕ))) (source : Course (List ℕ)) (result : Result (Unit {0}) ClientFault) : Type 0 where
  pub told : IfSome it.old (PutsOver path kind it source result)
  pub same : OnErr result (IsSame it)
  pub later : IsLater it
  pub cause : IsErrOf result KeeperFailed → HasFailed it
  pub ends : IfErr result (λ fault. SourceEnds fault source)
  pub read : IsLater source
