-- What happened to all that a command stands on.
use Rattle.std.specs.Prelude.{ℕ, List}
use Rattle.rs_face.specs.Courses.{Course, IsUntouched, HasFailed}

-- the rows of a user, the words of the system's random source, the input and the output, with the output's counts of wants of
-- memory apart from those of its faults
pub record Outside : Type 0 where
  pub rows : Course (List (List ℕ))
  pub words : Course (List ℕ)
  pub source : Course (List ℕ)
  pub sink : Course (List ℕ)
  pub wants : Course (List ℕ)

-- nothing was done
pub record IsAsItWas (out : Outside) : Type 0 where
  pub rows : IsUntouched out.rows
  pub words : IsUntouched out.words
  pub source : IsUntouched out.source
  pub sink : IsUntouched out.sink

-- no count of faults rose
pub record IsFaultless (out : Outside) : Type 0 where
  pub rows : HasFailed out.rows → ⊥
  pub words : HasFailed out.words → ⊥
  pub source : HasFailed out.source → ⊥
  pub sink : HasFailed out.sink → ⊥
