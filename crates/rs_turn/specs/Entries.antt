-- An entry of a seat, and a list with it.
use Rattle.std.specs.Prelude.{◌≡◌, ℕ, ◌⊎◌, List, [], ◌∷◌, ◌++◌, Option, Some, None}
use Rattle.rs_path.specs.declared.log_entry.LogEntry.{LogEntry}

module _ {W : Type 0} where
  abbrev pub entry : ℕ → W → LogEntry W
  entry who x = record { who = who; what = x }

  -- the list with this one entry of the seat more, or as it was
  abbrev pub extended : List (LogEntry W) → ℕ → Option W → List (LogEntry W)
  extended h who None = h
  extended h who (Some x) = h ++ entry who x ∷ []

  -- this holds of the list as it was, or of it with the one entry that the seat may add
  abbrev pub Leaves : List (LogEntry W) → ℕ → Option W → (List (LogEntry W) → Type 0) → Type 0
  Leaves h who may holds = holds h ⊎ ((x : W) × (may ≡ Some x) × holds (h ++ entry who x ∷ []))
