-- The one history of a user, of which the desks of all posts have seen fronts.
use Rattle.std.specs.Prelude.{ℕ, List, Option, All}
use Rattle.rs_path.specs.declared.log_entry.LogEntry.{LogEntry}
use Rattle.rs_path.specs.Logs.{StartsWith}
use Rattle.rs_record.specs.declared.records.Record.{Record}
use Rattle.rs_rules.specs.Histories.{IsFront}
use Rattle.rs_user.specs.Openings.{AreToldRows}
use Rattle.rs_hall.specs.Rooms.{history_of}
use Rattle.rs_serve.specs.Runs.{PostRun}

-- what the desk of a post stood for, of the user, is a front of the history: so each point of that is a point of this, with the
-- same answers, and an entry behind it is this one's entry there
pub record SawFronts (user : ℕ) (list : List (LogEntry Record)) (run : PostRun) : Type 0 where
  pub start : IsFront (run.start user) (history_of list)
  pub now : IsFront (run.now user) (history_of list)

-- the user has one history: told rows are those of it, and those that were told before are those of a front of it; and each desk saw
-- fronts of it
pub record OneHistory (user : ℕ) (told told' : Option (List (List ℕ))) (runs : List PostRun) : Type 0 where
  pub list : List (LogEntry Record)
  pub spelled : AreToldRows told' (history_of list)
  pub first : List (LogEntry Record)
  pub spelled_before : AreToldRows told (history_of first)
  pub begins : StartsWith list first
  pub seen : All (SawFronts user list) runs
