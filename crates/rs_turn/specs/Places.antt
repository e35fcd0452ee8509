-- A seat at the table of a lock, between its steps.
use Rattle.std.specs.Prelude.{◌≡◌, ℕ, ◌<◌, zero, suc, List, [], ◌∷◌, Option, Some, None}
use Rattle.atomic_table.specs.Table.{Me}
use Rattle.atomic_table.specs.Seated.{TableId}
use Rattle.atomic_table.specs.declared.shared.Seat.{Seat}
use Rattle.rs_path.specs.declared.log_entry.LogEntry.{LogEntry}
use Rattle.rs_turn.specs.declared.board.View.{View}
use Rattle.rs_turn.specs.declared.board.Stage.TheVariants.{Idle, Holding}
use Rattle.rs_path.specs.Logs.{StartsWith, own}
use Rattle.rs_turn.specs.Plays.{at_stage, having_seen}

-- the entry, where the list grew
abbrev pub added : {W : Type 0} → ℕ → Option W → Option W
added zero e = None
added (suc n) e = e

-- by how much a history grows: 1 for an entry, 0 for none
abbrev pub grown_by : {W : Type 0} → Option W → ℕ
grown_by None = 0
grown_by (Some x) = 1

module _ {S W O : Type 0} where
  abbrev pub IsPlaceOf : TableId → Seat S (View W O) → Type 0
  IsPlaceOf t p = (t.words ≡ 3) × (p.table_id ≡ t)

  -- it is numbered and about nothing
  abbrev pub IsAtRest : Seat S (View W O) → Type 0
  IsAtRest p = (p.me.1 ≡ []) × (p.me.0.stage ≡ Idle) × (0 < p.me.0.number)

module _ {B W O : Type 0} (stands : O → B → List (LogEntry W) → Type 0) where
  -- the seat has taken the value out of the slot, and has seen the history that it stands for
  abbrev pub HasTaken : View W O → B → Me (Option B) (View W O) → Type 0
  HasTaken v b n = (o : O) × (v.origin ≡ Some o) × (n.1 ≡ (0, None) ∷ [])
      × stands o b n.0.seen × StartsWith n.0.seen v.seen
      × (own v.number n.0.seen ≡ own v.number v.seen) × (n.0 ≡ at_stage (having_seen v n.0.seen) Holding)
