-- What clauses see of a lock and of a seat.
use Rattle.std.specs.Prelude.{◌≡◌, ℕ, ◌<◌, ◌≤◌, List, [], Option}
use Rattle.atomic_table.specs.Seated.{TableId}
use Rattle.rs_path.specs.declared.log_entry.LogEntry.{LogEntry}
use Rattle.rs_path.specs.Logs.{own}
use Rattle.rs_turn.specs.Limits.{max_seats}

-- which lock it is, and the value that it was made with, as it was then
pub record Lock (V : Type 0) : Type 0 where
  pub table : TableId
  pub origin : Option V

-- a seat: of which lock, its number, the history as far as it has seen it, how many seats it knows
-- to be numbered, and its count of faults
pub record Sitting (W V : Type 0) : Type 0 where
  pub lock : Lock V
  pub who : ℕ
  pub list : List (LogEntry W)
  pub made : ℕ
  pub faults : ℕ

-- s is a seat that was split off one that sat as `from` before and sits as `from'` after
pub record IsSplitFrom {W V : Type 0} (from from' s : Sitting W V) : Type 0 where
  pub lock : s.lock ≡ from.lock
  pub list : s.list ≡ from.list
  pub faults : s.faults ≡ 0
  -- no turn of it was taken yet
  pub mine : own s.who s.list ≡ []
  -- its number is above its parent's, and above each that its parent knew of
  pub above : from.who < s.who
  pub later : from.made < s.who
  pub known : from'.made ≡ s.who
  pub made : s.made ≡ s.who
  -- and was drawn within the limit
  pub few : s.who ≤ max_seats
