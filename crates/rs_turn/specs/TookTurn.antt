-- What a turn did.
use Rattle.std.specs.Prelude.{◌≡◌, ℕ, ◌+◌, ◌^◌, ◌<◌, ◌⊎◌, List, length, Option, None}
use Rattle.rs_path.specs.declared.log_entry.LogEntry.{LogEntry}
use Rattle.rs_path.specs.Logs.{StartsWith, own}
use Rattle.rs_turn.specs.Entries.{extended}
use Rattle.rs_turn.specs.Origins.{BeginsAsMade, HasBasisOf}
use Rattle.rs_turn.specs.Places.{added, grown_by}

module _ {V W G A D : Type 0} (stands : V → List (LogEntry W) → Type 0) (basis_of : V → G) (adds : V → ℕ → Option W) (shows : G → List (LogEntry W) → ℕ → List (LogEntry W) → A → D → Type 0) where
  -- the deed was done once, on a value with the origin's basis that stood for a history which
  -- begins with what the origin stood for and with all that the seat had seen
  pub record TookTurn (origin : Option V) (who : ℕ) (old new : List (LogEntry W)) (answer : A) (deed' : D) : Type 0 where
    -- the history when the deed was done, the value as it was then, and the entry that the deed
    -- added
    pub before : List (LogEntry W)
    pub value : V
    pub taken : Option W
    pub begins : StartsWith before old
    pub started : BeginsAsMade stands origin before
    pub stood : stands value before
    pub same : HasBasisOf basis_of origin value
    pub chosen : (taken ≡ None) ⊎ (taken ≡ adds value who)
    -- the seat has seen the history as it was after the deed, in which its own entries are its old
    -- ones and this one
    pub after : new ≡ extended before who taken
    pub mine : own who new ≡ extended (own who old) who taken
    pub shown : shows (basis_of value) before who new answer deed'

  -- what the deed did to the value v, which became w, where v stood for the history h
  pub record Acted (v w : V) (h : List (LogEntry W)) (who more front : ℕ) (answer : A) (deed' : D) : Type 0 where
    pub stands_after : stands w (extended h who (added more (adds v who)))
    pub shown : shows (basis_of v) h who (extended h who (added more (adds v who))) answer deed'
    pub grown : more ≡ grown_by (added more (adds v who))
    pub front_is : front ≡ length (extended h who (added more (adds v who)))
    pub fits : length h + more < 2 ^ 64
