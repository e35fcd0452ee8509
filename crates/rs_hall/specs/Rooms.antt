-- What a user's lock holds, and what it stands for.
use Rattle.std.specs.Prelude.{◌≡◌, ℕ, List, Option}
use Rattle.rs_path.specs.declared.log_entry.LogEntry.{LogEntry}
use Rattle.rs_record.specs.declared.records.Record.{Record}
use Rattle.rs_rules.specs.Histories.{History, empty_base}
use Rattle.rs_rules.specs.Contents.{Contents}
use Rattle.rs_user.specs.Standing.{StandsFor}
use Rattle.rs_user.specs.Openings.{AreToldRows}
use Rattle.rs_hall.specs.declared.room.Room.{Room}

-- the list of a lock as a history, of which nothing was given up
abbrev pub history_of : List (LogEntry Record) → History
history_of list = record { base = empty_base; entries = list }

module _ {K T R : Type 0} (tree_stands : T → Contents → Type 0) (rows : K → Option (List (List ℕ))) (row_count : K → ℕ) where
  -- the room stands for the list: its state does, there are as many rows as that counts, and told rows are those of the list
  pub record IsRoom (room : Room K T R) (list : List (LogEntry Record)) : Type 0 where
    pub stands : StandsFor tree_stands room.state (history_of list)
    pub counted : row_count room.keeper ≡ room.state.rows
    pub spells : AreToldRows (rows room.keeper) (history_of list)
