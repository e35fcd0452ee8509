-- What is seen of a stream.
use Rattle.std.specs.Prelude.{ℕ}

-- the reader or writer below, and how many calls failed so far
pub record Stream (S : Type 0) : Type 0 where
  pub inner : S
  pub faults : ℕ
