-- What each step on the table tells the seat that makes it: of the seat before, the number found
-- and the seat after.
use Rattle.std.specs.Prelude.{◌≡◌, ℕ, ◌+◌, ◌≤◌, cond, nat_lt, List, [], ◌∷◌, length, Option, Some, None}
use Rattle.atomic_table.specs.Table.{Me}
use Rattle.rs_path.specs.declared.log_entry.LogEntry.{LogEntry}
use Rattle.rs_turn.specs.declared.board.View.{View}
use Rattle.rs_turn.specs.declared.board.Stage.{Stage}
use Rattle.rs_turn.specs.declared.board.Stage.TheVariants.{Idle, Holding, Looked, Drew}
use Rattle.rs_path.specs.Logs.{StartsWith, own}
use Rattle.rs_turn.specs.Entries.{extended}
use Rattle.rs_turn.specs.Limits.{max_seats}
use Rattle.rs_turn.specs.Origins.{BeginsAsMade}

-- the number that was drawn for a new seat, or 0
abbrev pub drawn_number : Stage → ℕ
drawn_number (Drew n) = n
drawn_number Idle = 0
drawn_number Holding = 0
drawn_number Looked = 0

module _ {W O : Type 0} where
  abbrev pub at_stage : View W O → Stage → View W O
  at_stage v s = record v { stage = s }

  abbrev pub having_seen : View W O → List (LogEntry W) → View W O
  having_seen v h = record v { seen = h }

  abbrev pub having_booked : View W O → Option W → View W O
  having_booked v e = record v { seen = extended v.seen v.number e }

  abbrev pub knowing_made : View W O → ℕ → Stage → View W O
  knowing_made v n s = record v { made = n; stage = s }

  -- a view is cut: the new one has the number that was drawn, or none
  abbrev pub parted : View W O → View W O
  parted v = record v { number = drawn_number v.stage; stage = Idle }

  abbrev pub informed : View W O → View W O → View W O
  informed v w = record v { told = w.seen }

  -- what a note leaves behind
  abbrev pub spent : View W O
  spent = record { origin = None; seen = []; told = []; number = 0; made = 0; stage = Idle }

module _ {S W O : Type 0} where
  -- the history gets the entry, if there is one
  abbrev pub Books : Option W → Me S (View W O) → ℕ → Me S (View W O) → Type 0
  Books e m r n = (n.1 ≡ m.1) × (n.0 ≡ having_booked m.0 e)

  -- the value is back
  abbrev pub Passes : Me S (View W O) → ℕ → Me S (View W O) → Type 0
  Passes m r n = (n.1 ≡ []) × (n.0 ≡ at_stage m.0 Idle)

  -- how many seats were numbered
  abbrev pub Sees : Me S (View W O) → ℕ → Me S (View W O) → Type 0
  Sees m r n = (n.1 ≡ m.1) × (m.0.made ≤ r)
      × (n.0 ≡ knowing_made m.0 r (cond (nat_lt r max_seats) Looked Idle))

  -- one more seat is numbered, unless there were too many
  abbrev pub Numbers : Me S (View W O) → ℕ → Me S (View W O) → Type 0
  Numbers m r n = (n.1 ≡ m.1) × (m.0.made ≤ r) × (m.0.number ≤ r) × (own (r + 1) m.0.seen ≡ [])
      × (n.0 ≡ knowing_made m.0 (r + 1) (cond (nat_lt r max_seats) (Drew (r + 1)) Idle))

  -- what was told is seen
  abbrev pub Adopts : Me S (View W O) → ℕ → Me S (View W O) → Type 0
  Adopts m r n = (n.1 ≡ m.1) × (own m.0.number m.0.told ≡ own m.0.number m.0.seen)
      × (n.0 ≡ having_seen m.0 m.0.told)

module _ {S W O : Type 0} (stood : O → List (LogEntry W) → Type 0) where
  -- the whole history is seen, which begins with what the origin stood for, what was seen and what
  -- was told
  abbrev pub CountsLog : Me S (View W O) → ℕ → Me S (View W O) → Type 0
  CountsLog m r n = (n.1 ≡ m.1) × (r ≡ length n.0.seen) × BeginsAsMade stood m.0.origin n.0.seen
      × StartsWith n.0.seen m.0.seen × StartsWith n.0.seen m.0.told
      × (own m.0.number n.0.seen ≡ own m.0.number m.0.seen) × (n.0 ≡ having_seen m.0 n.0.seen)

module _ {B W O : Type 0} (stands : O → B → List (LogEntry W) → Type 0) where
  -- the seat has the value, and has seen the history that it stands for
  abbrev pub TakesValue : View W O → Me (Option B) (View W O) → Type 0
  TakesValue v n = (b : B) × (o : O) × (v.origin ≡ Some o) × (n.1 ≡ (0, Some b) ∷ [])
      × stands o b n.0.seen × StartsWith n.0.seen v.seen
      × (own v.number n.0.seen ≡ own v.number v.seen) × (n.0 ≡ at_stage (having_seen v n.0.seen) Holding)

  -- the value was free, and the seat takes it; or another seat held it, and this one is as before
  abbrev pub Grabs : Me (Option B) (View W O) → ℕ → Me (Option B) (View W O) → Type 0
  Grabs m r n = (r ≡ 0 → TakesValue m.0 n) × (¬ (r ≡ 0) → n ≡ m)
