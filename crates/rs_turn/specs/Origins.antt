-- What later lists and values have of the value that a lock was made with, its origin.
use Rattle.std.specs.Prelude.{◌≡◌, List, Option, Some}
use Rattle.rs_path.specs.declared.log_entry.LogEntry.{LogEntry}
use Rattle.rs_path.specs.Logs.{StartsWith}

module _ {V W : Type 0} (stands : V → List (LogEntry W) → Type 0) where
  -- the list begins with one that the value stands for
  abbrev pub BeginsAs : V → List (LogEntry W) → Type 0
  BeginsAs value list = (start : List (LogEntry W)) × stands value start × StartsWith list start

  -- the list begins with one that the origin stood for
  abbrev pub BeginsAsMade : Option V → List (LogEntry W) → Type 0
  BeginsAsMade origin list = (value : V) × (origin ≡ Some value) × BeginsAs value list

module _ {V G : Type 0} (basis_of : V → G) where
  -- the value has the basis of the origin
  abbrev pub HasBasisOf : Option V → V → Type 0
  HasBasisOf origin value = (made : V) × (origin ≡ Some made) × (basis_of value ≡ basis_of made)

module _ {V W G : Type 0} (stands : V → List (LogEntry W) → Type 0) (basis_of : V → G) where
  -- the value stands for the list, and has the basis of the origin
  abbrev pub StandsFrom : V → V → List (LogEntry W) → Type 0
  StandsFrom origin value list = stands value list × (basis_of value ≡ basis_of origin)
