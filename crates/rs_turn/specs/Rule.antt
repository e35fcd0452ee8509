-- The rule of the table that the seats of a lock share. It has three parts, and each step of a seat
-- keeps it.
use Rattle.std.specs.Prelude.{◌≡◌, ℕ, ◌+◌, ◌^◌, ◌<◌, ◌≤◌, min, ◌⊎◌, List, [], ◌∷◌, length, Option, Some}
use mathlib.Core.Option as home
use lib.ListN.{get_elem?}
use Rattle.atomic_table.specs.Table.{State}
use Rattle.rs_path.specs.declared.log_entry.LogEntry.{LogEntry}
use Rattle.rs_turn.specs.declared.board.View.{View}
use Rattle.rs_turn.specs.declared.board.Stage.{Stage}
use Rattle.rs_turn.specs.declared.board.Stage.TheVariants.{Idle, Holding, Looked, Drew}
use Rattle.rs_path.specs.Logs.{StartsWith, own}
use Rattle.rs_turn.specs.Origins.{BeginsAs}

-- f of each, added up
abbrev pub tally : {A : Type 0} → (A → ℕ) → List A → ℕ
tally f [] = 0
tally f (x ∷ xs) = f x + tally f xs

-- 1 where the stage is what the name says, else 0
abbrev pub is_holding : Stage → ℕ
is_holding Holding = 1
is_holding Idle = 0
is_holding Looked = 0
is_holding (Drew n) = 0

abbrev pub is_drawing : Stage → ℕ
is_drawing Looked = 1
is_drawing Idle = 0
is_drawing Holding = 0
is_drawing (Drew n) = 0

abbrev pub has_drawn : Stage → ℕ
has_drawn (Drew n) = 1
has_drawn Idle = 0
has_drawn Holding = 0
has_drawn Looked = 0

abbrev pub is_busy : Stage → ℕ
is_busy Idle = 0
is_busy Holding = 1
is_busy Looked = 1
is_busy (Drew n) = 1

-- who holds the value has seen the whole history, and no entry has a number that no seat has yet
abbrev pub StageFits : {W : Type 0} → List (LogEntry W) → List (LogEntry W) → Stage → Type 0
StageFits log seen Holding = seen ≡ log
StageFits log seen (Drew n) = own n log ≡ []
StageFits log seen Idle = Unit {0}
StageFits log seen Looked = Unit {0}

module _ {W O : Type 0} where
  abbrev pub holding : View W O → ℕ
  holding v = is_holding v.stage

  abbrev pub drawing : View W O → ℕ
  drawing v = is_drawing v.stage

  -- how many numbers a view has
  abbrev pub named : View W O → ℕ
  named v = min v.number 1 + has_drawn v.stage

  -- Part 1, seats. Each number is of one view, and none is above `made`; no view keeps more than
  -- `made`; only a numbered seat does anything.
  pub record SeatFits (made : ℕ) (owner : ℕ → ℕ) (by : ℕ) (v : View W O) : Type 0 where
    pub number : 0 < v.number → (owner v.number ≡ by) × (v.number ≤ made)
    pub drawn : (n : ℕ) → v.stage ≡ Drew n → (owner n ≡ by) × (n ≤ made) × (v.number < n)
    pub most : v.made ≤ made
    pub busy : is_busy v.stage ≤ min v.number 1

  pub record Seats (made : ℕ) (owner : ℕ → ℕ) (views : List (View W O)) : Type 0 where
    pub each : (by : ℕ) (v : View W O) → get_elem? views by ≡ home.some v → SeatFits made owner by v
    pub names : tally named views ≤ made
    pub room : tally drawing views + made < 2 ^ 33

  -- Part 2, turns. At most one view holds the value, and the word is 0 exactly where none does.
  abbrev pub OneHolds : ℕ → List (View W O) → Type 0
  OneHolds held views = tally holding views ≡ min held 1

  -- Part 3, history. It begins with what the origin stood for. What a view has seen or was told
  -- begins the history, and the entries of a number are all among what its seat has seen.
  pub record LogFits (o : O) (log : List (LogEntry W)) (v : View W O) : Type 0 where
    pub origin : 0 < v.number → v.origin ≡ Some o
    pub seen : StartsWith log v.seen
    pub told : StartsWith log v.told
    pub mine : 0 < v.number → own v.number log ≡ own v.number v.seen
    pub stage : StageFits log v.seen v.stage

  module _ {B : Type 0} (stood : O → List (LogEntry W) → Type 0) (stands : O → B → List (LogEntry W) → Type 0) where
    -- the slot holds a value that stands for the history, but while one view holds it
    abbrev pub Slot : O → List (LogEntry W) → List (home.Option (Option B)) → ℕ → Type 0
    Slot o log homes held = ((b : B) × (homes ≡ home.some (Some b) ∷ []) × stands o b log × (held ≡ 0)) ⊎ ((homes ≡ home.none ∷ []) × (held ≡ 1))

    pub record LogPart (o : O) (log : List (LogEntry W)) (made : ℕ) (homes : List (home.Option (Option B))) (views : List (View W O)) : Type 0 where
      pub each : (by : ℕ) (v : View W O) → get_elem? views by ≡ home.some v → LogFits o log v
      pub begun : BeginsAs stood o log
      pub unused : (n : ℕ) → made < n → own n log ≡ []
      pub slot : Slot o log homes (tally holding views)

    pub record TurnRule (o : O) (s : State (Option B) (View W O)) : Type 0 where
      pub held : ℕ
      pub made : ℕ
      pub log : List (LogEntry W)
      pub owner : ℕ → ℕ
      pub words : s.words ≡ held ∷ length log ∷ made ∷ []
      pub seats : Seats made owner s.views
      pub turns : OneHolds held s.views
      pub history : LogPart o log made s.homes s.views

  -- the first seat of a lock of this value
  abbrev pub opened : O → View W O
  opened o = record { origin = Some o; seen = []; told = []; number = 1; made = 1; stage = Idle }
