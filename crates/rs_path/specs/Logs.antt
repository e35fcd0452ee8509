-- Lists of entries that several make together, oldest first.
use Rattle.std.specs.Prelude.{◌≡◌, ℕ, ◌==◌, List, ◌++◌, filter}
use Rattle.rs_path.specs.declared.log_entry.LogEntry.{LogEntry}

-- the list begins with the other one
abbrev pub StartsWith : {A : Type 0} → List A → List A → Type 0
StartsWith {A} log front = (rest : List A) × (log ≡ front ++ rest)

-- the entries that were made under the number
abbrev pub own : {W : Type 0} → ℕ → List (LogEntry W) → List (LogEntry W)
own {W} who log = filter (λ (entry : LogEntry W). entry.who == who) log
