-- What a turn has done to a state and to its rows.
use Rattle.std.specs.Prelude.{◌≡◌, ℕ, Bool, true, false, List, [], ◌∷◌, Option, Some, None, Result, Ok, Err}
use Rattle.rs_face.specs.Causes.{Rose}
use Rattle.rs_face.specs.Rows.{with_row, with_rows}
use Rattle.rs_face.specs.declared.keeper.KeepFault.{KeepFault}
use Rattle.rs_face.specs.declared.keeper.KeepFault.TheVariants.{Failed, NoMemory as NoMemoryToKeep}
use Rattle.rs_record.specs.declared.records.Record.{Record}
use Rattle.rs_record.specs.Rows.{spelling}
use Rattle.rs_record.specs.RowReadings.{record_reading}
use Rattle.rs_rules.specs.declared.desk.DeskFault.{DeskFault}
use Rattle.rs_rules.specs.declared.desk.DeskFault.TheVariants.{NoMemory}
use Rattle.rs_rules.specs.declared.reply.Reply.{Reply}
use Rattle.rs_rules.specs.declared.reply.Reply.TheVariants.{StoreFailed}
use Rattle.rs_rules.specs.declared.request.Request.{Request}
use Rattle.rs_rules.specs.declared.turn.Turn.{Turn}
use Rattle.rs_rules.specs.Histories.{History, len, with_entry, with_entries}
use Rattle.rs_rules.specs.Contents.{Contents}
use Rattle.rs_rules.specs.Answers.{answer, taken, entry_of}
use Rattle.rs_rules.specs.Growth.{is_store_failed}
use Rattle.rs_user.specs.declared.state.UserState.{UserState}
use Rattle.rs_user.specs.Standing.{StandsFor}
use Rattle.rs_user.specs.Openings.{AreToldRows}

-- a fault of the keeper is told as StoreFailed, want of memory as such
abbrev pub TellsFault : KeepFault → Result Turn DeskFault → Type 0
TellsFault Failed (Ok turn) = turn.reply ≡ StoreFailed
TellsFault Failed (Err fault) = ⊥
TellsFault NoMemoryToKeep (Ok turn) = ⊥
TellsFault NoMemoryToKeep (Err fault) = Unit {0}

-- the row of a record that may be there
abbrev pub row_of : Option Record → List (List ℕ)
row_of None = []
row_of (Some what) = spelling what ∷ []

module _ {T R : Type 0} (tree_stands : T → Contents → Type 0) where
  -- the state stands for the history that it stood for, and the told rows are as before
  pub record IsStill (state : UserState T R) (h : History) (old new : Option (List (List ℕ))) : Type 0 where
    pub stands : StandsFor tree_stands state h
    pub rows : new ≡ old

  -- nothing was kept, and the keeper's count of faults rose
  pub record KeptNothing (state : UserState T R) (h : History) (old new : Option (List (List ℕ))) (before now : ℕ) : Type 0 where
    pub still : IsStill state h old new
    pub rose : Rose before now

  -- the record was kept: the state stands for the history and this record, the told rows have its row behind the others
  pub record RecordKept (state : UserState T R) (h : History) (who : ℕ) (what : Record) (told : Reply) (turn : Turn)
      (old new : Option (List (List ℕ))) : Type 0 where
    pub reply : turn.reply ≡ told
    pub front : turn.front ≡ len h
    pub stands : StandsFor tree_stands state (with_entry h (record { who = who; what = what }))
    pub rows : new ≡ with_row old (spelling what)
    pub back : record_reading (spelling what) ≡ Ok what

  abbrev pub KeepsBy : Bool → UserState T R → History → ℕ → Record → Reply → Turn → Option (List (List ℕ)) → Option (List (List ℕ)) → ℕ → ℕ → Type 0
  KeepsBy true state h who what reply turn old new before now = KeptNothing state h old new before now
  KeepsBy false state h who what reply turn old new before now = RecordKept state h who what reply turn old new

  -- a record was to be kept, and the reply told where it is
  abbrev pub Keeps : UserState T R → History → ℕ → Record → Reply → Result Turn DeskFault → Option (List (List ℕ)) → Option (List (List ℕ)) → ℕ → ℕ → Type 0
  Keeps state h who what reply (Err NoMemory) old new before now = IsStill state h old new
  Keeps state h who what reply (Ok turn) old new before now =
      KeepsBy (is_store_failed turn.reply) state h who what reply turn old new before now

  -- the request was answered: the reply is the history's answer, the front its length; the state stands for the history and
  -- the record that was taken, and the told rows have this record's row behind the others, and no other new one. Rows that
  -- were those of the history are those of what it is now
  pub record Answered (state : UserState T R) (h : History) (quota who : ℕ) (r : Request) (turn : Turn)
      (old new : Option (List (List ℕ))) : Type 0 where
    pub reply : turn.reply ≡ answer h quota r
    pub front : turn.front ≡ len h
    pub stands : StandsFor tree_stands state (with_entries h (entry_of who (taken h quota r)))
    pub rows : new ≡ with_rows old (row_of (taken h quota r))
    pub spells : AreToldRows old h → AreToldRows new (with_entries h (entry_of who (taken h quota r)))

  abbrev pub AnswersBy : Bool → UserState T R → History → ℕ → ℕ → Request → Turn → Option (List (List ℕ)) → Option (List (List ℕ)) → ℕ → ℕ → Type 0
  AnswersBy true state h quota who r turn old new before now = KeptNothing state h old new before now
  AnswersBy false state h quota who r turn old new before now = Answered state h quota who r turn old new

  -- what a turn has done
  abbrev pub StateTurned : UserState T R → History → ℕ → ℕ → Request → Result Turn DeskFault → Option (List (List ℕ)) → Option (List (List ℕ)) → ℕ → ℕ → Type 0
  StateTurned state h quota who r (Err NoMemory) old new before now = IsStill state h old new
  StateTurned state h quota who r (Ok turn) old new before now =
      AnswersBy (is_store_failed turn.reply) state h quota who r turn old new before now
