-- What is seen of a sink that holds bytes back.
use Rattle.std.specs.Prelude.{ℕ, List, Option}
use Rattle.std.specs.Io.KnownBytes.{append_known}

-- the sink below, and the bytes that were written and not handed on yet
pub record Held (S : Type 0) : Type 0 where
  pub inner : S
  pub held : List ℕ

-- it tells what the sink below tells, and then what is held
abbrev pub told_of : {S : Type 0} → (S → Option (List ℕ)) → Held S → Option (List ℕ)
told_of written s = append_known (written s.inner) s.held
