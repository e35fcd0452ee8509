-- Counts of faults, and the answers that only a fault explains.
use Rattle.std.specs.Prelude.{ℕ, ◌+◌, ◌-◌, ◌^◌, ◌≤◌, min, Result, IsErrOf}

-- one more, in a counter of 64 bits that stays at its greatest value
abbrev pub one_more : ℕ → ℕ
one_more count = min (count + 1) (2 ^ 64 - 1)

-- a count rose, or had been at its greatest value before
abbrev pub Rose : ℕ → ℕ → Type 0
Rose before now = one_more before ≤ now

-- over a call a count of faults never fell, and it rose where the call answered this fault
pub record HasCause {A E : Type 0} (before now : ℕ) (fault : E) (result : Result A E) : Type 0 where
  pub later : before ≤ now
  pub failed : IsErrOf result fault → Rose before now
