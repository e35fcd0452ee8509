-- What is seen of a listener in memory.
use Rattle.std.specs.Prelude.{ℕ, List}
use Rattle.rs_face.specs.Calls.{Calls}
use Rattle.rs_face.specs.Pieces.{SourceState, SinkState}
use Rattle.rs_face.specs.declared.listener.Ended.{Ended}

-- the connections that will come, those that were taken back, how many it gave, how often none was left, and the calls
pub record ListenerState : Type 0 where
  pub coming : List (SourceState × SinkState)
  pub back : List (Ended SourceState SinkState)
  pub given : ℕ
  pub ends : ℕ
  pub calls : Calls
