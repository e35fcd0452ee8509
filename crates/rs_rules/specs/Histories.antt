-- Histories: a base, and the records accepted since (own).
use Rattle.std.specs.Prelude.{◌≡◌, ℕ, ◌+◌, ◌-◌, ◌≤◌, List, [], ◌∷◌, ◌++◌, length, take, Option, None}
use Rattle.rs_path.specs.Logs.{StartsWith}
use Rattle.rs_path.specs.Paths.{Path}
use Rattle.rs_path.specs.declared.log_entry.LogEntry.{LogEntry}
use Rattle.rs_scope.specs.declared.scope.Scope.{Scope}
use Rattle.rs_record.specs.declared.records.Record.{Record}
use Rattle.rs_rules.specs.declared.placed.Placed.{Placed}

-- what the entries that were given up have left: their number, the documents in the order of their numbers, the versions
-- of folders, and the scopes of tokens
pub record Base : Type 0 where
  pub cut : ℕ
  pub docs : List Placed
  pub versions : Path → ℕ
  pub tokens : List ℕ → Option (List Scope)

-- nothing was given up
abbrev pub empty_base : Base
empty_base = record { cut = 0; docs = []; versions = λ folder. 0; tokens = λ token. None }

-- a base, and the entries after it, which are numbered from its cut plus 1
pub record History : Type 0 where
  pub base : Base
  pub entries : List (LogEntry Record)

-- the history without entries
abbrev pub start : Base → History
start b = record { base = b; entries = [] }

-- the length: the cut and the number of entries
abbrev pub len : History → ℕ
len h = h.base.cut + length h.entries

-- the history and one more entry
abbrev pub with_entry : History → LogEntry Record → History
with_entry h e = record { base = h.base; entries = h.entries ++ e ∷ [] }

-- the history and more entries
abbrev pub with_entries : History → List (LogEntry Record) → History
with_entries h es = record { base = h.base; entries = h.entries ++ es }

-- the history as it was at length n
abbrev pub up_to : ℕ → History → History
up_to n h = record { base = h.base; entries = take (n - h.base.cut) h.entries }

-- n is a point of the history: a length that it had since its base
pub record IsPoint (n : ℕ) (h : History) : Type 0 where
  pub above : h.base.cut ≤ n
  pub within : n ≤ len h

-- the first history is a prefix of the second: the same base, and its entries come first
pub record IsFront (old new : History) : Type 0 where
  pub same : new.base ≡ old.base
  pub entries : StartsWith new.entries old.entries

-- a value from the base on, one step for each entry, with its number
abbrev pub replay : {S : Type 0} → (ℕ → Record → S → S) → ℕ → S → List (LogEntry Record) → S
replay step n s [] = s
replay step n s (e ∷ es) = replay step (n + 1) (step (n + 1) e.what s) es
