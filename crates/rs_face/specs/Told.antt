-- What an object of the outside tells of its contents, from one state to a later one.
use Rattle.std.specs.Prelude.{◌≡◌, ℕ, List, Option, is_some, take}
use Rattle.std.specs.Io.KnownBytes.{Appends}

-- an object that tells goes on to tell, and one that doesn't never begins to
abbrev pub StaysTold : {A : Type 0} → Option A → Option A → Type 0
StaysTold old new = is_some new ≡ is_some old

-- told bytes grow by a front of these bytes
abbrev pub AppendsFront : Option (List ℕ) → Option (List ℕ) → List ℕ → Type 0
AppendsFront old new bytes = (count : ℕ) × Appends old new (take count bytes)
