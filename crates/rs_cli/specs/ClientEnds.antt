-- What a client's commands do to the rows of a journal, and print.
use Rattle.std.specs.Prelude.{◌≡◌, ℕ, List, Option, Result, Ok, Err, codes}
use Rattle.rs_face.specs.Courses.{Course, IsUntouched}
use Rattle.rs_path.specs.Paths.{Path}
use Rattle.rs_scope.specs.declared.scope.Scope.{Scope}
use Rattle.rs_talk.specs.Roots.{Root}
use Rattle.rs_cache.specs.declared.cache_fault.CacheFault.{CacheFault}
use Rattle.rs_cache.specs.declared.event.Event.{Event}
use Rattle.rs_cache.specs.States.{State}
use Rattle.rs_client.specs.declared.client_fault.ClientFault.{ClientFault}
use Rattle.rs_client.specs.Additions.{AddsEvent}
use Rattle.rs_client.specs.Connecting.{Connects}
use Rattle.rs_client.specs.Putting.{Puts}
use Rattle.rs_client.specs.Showings.{ShowsState}
use Rattle.rs_cli.specs.declared.note.Note.{Note}
use Rattle.rs_cli.specs.Causes.{note_of_client}
use Rattle.rs_cli.specs.Grants.{Prints, line_of}

-- ---- what is printed

-- what was done is followed by this line; where it wasn't done the note says why, and the sink is untouched
abbrev pub SaysDone : List ℕ → Course (List ℕ) → Result (Unit {0}) ClientFault → Note → Type 0
SaysDone word sink (Ok done) note = Prints sink (line_of word) note
SaysDone word sink (Err fault) note = IsUntouched sink × (note ≡ note_of_client fault)

-- the text was printed as it is; where there is none the note says why, and the sink is untouched
abbrev pub SaysShown : Course (List ℕ) → Result (List ℕ) ClientFault → Note → Type 0
SaysShown sink (Ok text) note = Prints sink text note
SaysShown sink (Err fault) note = IsUntouched sink × (note ≡ note_of_client fault)

-- ---- what is done

-- `connect`: the client of an empty journal was connected, and then `connected` printed
pub record ConnectEnds (root : Root) (token : List ℕ) (scopes : List Scope) (rows : Course (List (List ℕ))) (sink : Course (List ℕ)) (note : Note) : Type 0 where
  pub result : Result (Unit {0}) ClientFault
  pub connects : Connects root token scopes rows result
  pub says : SaysDone (codes "connected") sink result note

-- `put`: the source to its end became the document, and then `put` was printed
pub record PutEnds (path : Path) (kind : List ℕ) (rows : Course (List (List ℕ))) (source sink : Course (List ℕ)) (note : Note) : Type 0 where
  pub result : Result (Unit {0}) ClientFault
  pub puts : Puts path kind rows source result
  pub says : SaysDone (codes "put") sink result note

-- the event was added, unless the client refuses it, and then the word was printed
pub record AddEnds (refusal : State → Option CacheFault) (event : Event) (word : List ℕ) (rows : Course (List (List ℕ))) (sink : Course (List ℕ)) (note : Note) : Type 0 where
  pub result : Result (Unit {0}) ClientFault
  pub adds : AddsEvent refusal event rows result
  pub says : SaysDone word sink result note

-- what the client has to show was printed, and the rows are as before
pub record ShowEnds (answer : State → Option (List ℕ)) (rows : Course (List (List ℕ))) (sink : Course (List ℕ)) (note : Note) : Type 0 where
  pub result : Result (List ℕ) ClientFault
  pub shows : ShowsState answer rows result
  pub says : SaysShown sink result note
