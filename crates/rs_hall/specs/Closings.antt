-- A hall, closed.
use Rattle.std.specs.Prelude.{◌≡◌, ℕ, List, Option}
use Rattle.rs_path.specs.declared.log_entry.LogEntry.{LogEntry}
use Rattle.rs_path.specs.Logs.{StartsWith}
use Rattle.rs_record.specs.declared.records.Record.{Record}
use Rattle.rs_rules.specs.Contents.{Contents}
use Rattle.rs_turn.specs.Origins.{BeginsAsMade}
use Rattle.rs_turn.specs.Sitting.{Sitting}
use Rattle.rs_hall.specs.declared.room.Room.{Room}
use Rattle.rs_hall.specs.Halls.{quota_of_origin}
use Rattle.rs_hall.specs.Rooms.{IsRoom}

module _ {K T R : Type 0} (tree_stands : T → Contents → Type 0) (rows : K → Option (List (List ℕ))) (row_count : K → ℕ) where
  -- the keeper comes back from the room at the seat's lock, after all turns: the list that the room stands for, so of which the
  -- told rows are, begins with what the seat has seen, and with what the room that the lock was made with stood for
  pub record ComesBack (seat : Sitting Record (Room K T R)) (keeper : K) : Type 0 where
    pub room : Room K T R
    pub keeper_is : room.keeper ≡ keeper
    pub quota : room.state.quota ≡ quota_of_origin seat.lock.origin
    pub list : List (LogEntry Record)
    pub stands : IsRoom tree_stands rows row_count room list
    pub begins : StartsWith list seat.list
    pub started : BeginsAsMade (IsRoom tree_stands rows row_count) seat.lock.origin list
