-- Counts over several calls, one after another.
use Rattle.std.proofs.Common.{ℕ, ◌≤◌, arith, Result}
use Rattle.rs_face.specs.Causes.{Rose, HasCause}

-- the count rose in the second of two calls, and didn't fall in the first
pub Rose-later : (first before now : ℕ) → first ≤ before → Rose before now → Rose first now
Rose-later first before now later rose = omega arith

-- the count rose in the first of two calls, and didn't fall in the second
pub Rose-kept : (before now last : ℕ) → Rose before now → now ≤ last → Rose before last
Rose-kept before now last rose later = omega arith

pub Rose-trans : (before now last : ℕ) → Rose before now → Rose now last → Rose before last
Rose-trans before now last rose again = omega arith

-- what a call answered has its cause in all calls up to it
pub HasCause-later : {A E : Type 0} (first before now : ℕ) (fault : E) (result : Result A E)
    → first ≤ before → HasCause before now fault result → HasCause first now fault result
HasCause-later first before now fault result later cause = record {
  later = let there = cause.later in omega arith;
  failed = λ is. Rose-later first before now later (cause.failed is);
}
