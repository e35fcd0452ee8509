-- What asking in a turn shows.
use Rattle.std.specs.Prelude.{◌≡◌, ℕ, Bool, true, false, List, length, Result, Ok, Err}
use Rattle.rs_path.specs.declared.log_entry.LogEntry.{LogEntry}
use Rattle.rs_record.specs.declared.records.Record.{Record}
use Rattle.rs_rules.specs.declared.desk.DeskFault.{DeskFault}
use Rattle.rs_rules.specs.declared.request.Request.{Request}
use Rattle.rs_rules.specs.declared.turn.Turn.{Turn}
use Rattle.rs_rules.specs.Answers.{answer, taken}
use Rattle.rs_rules.specs.Growth.{is_store_failed}
use Rattle.rs_turn.specs.Entries.{extended}
use Rattle.rs_hall.specs.Rooms.{history_of}

-- the record couldn't be kept
abbrev pub is_failed_turn : Result Turn DeskFault → Bool
is_failed_turn (Ok turn) = is_store_failed turn.reply
is_failed_turn (Err fault) = false

-- the request was decided on the list `before`: the reply is its answer, the front its length, and what it takes was added
pub record IsDecidedOn (r : Request) (quota : ℕ) (before : List (LogEntry Record)) (who : ℕ) (after : List (LogEntry Record)) (turn : Turn) : Type 0 where
  pub reply : turn.reply ≡ answer (history_of before) quota r
  pub front : turn.front ≡ length before
  pub added : after ≡ extended before who (taken (history_of before) quota r)

-- the record couldn't be kept, and nothing was added; or the request was decided
abbrev pub IsShownBy : Bool → Request → ℕ → List (LogEntry Record) → ℕ → List (LogEntry Record) → Turn → Type 0
IsShownBy true r quota before who after turn = after ≡ before
IsShownBy false r quota before who after turn = IsDecidedOn r quota before who after turn

-- what the answer to a request shows, which was asked in a turn by the seat with the number `who`
abbrev pub IsShown : Request → ℕ → List (LogEntry Record) → ℕ → List (LogEntry Record) → Result Turn DeskFault → Type 0
IsShown r quota before who after (Ok turn) = IsShownBy (is_store_failed turn.reply) r quota before who after turn
IsShown r quota before who after (Err fault) = after ≡ before
