-- What is seen of a source and of a sink in memory that fail, or hand bytes on in pieces.
use Rattle.std.specs.Prelude.{ℕ, List}
use Rattle.rs_face.specs.Calls.{Calls}

-- the bytes that are left, the most bytes that one read gives, and the calls
pub record SourceState : Type 0 where
  pub left : List ℕ
  pub piece : ℕ
  pub calls : Calls

-- the bytes that were written, and how many writes wanted memory
pub record GrowingState : Type 0 where
  pub bytes : List ℕ
  pub wants : ℕ

-- the bytes that were written, how many writes wanted memory, the most bytes that one write takes, and the calls
pub record SinkState : Type 0 where
  pub bytes : List ℕ
  pub wants : ℕ
  pub piece : ℕ
  pub calls : Calls
