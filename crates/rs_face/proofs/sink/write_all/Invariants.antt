-- What is gone from `rest` was written, and no fault or want of memory was counted.
use Rattle.std.proofs.Common.{◌≡◌, ℕ, List, ◌++◌, length}
use Rattle.std.specs.Io.KnownBytes.{Appends}
use Rattle.rs_face.specs.Told.{StaysTold}
use Rattle.rs_face.proofs.sink.write_all.Given as goal

abbrev pub invariant-loop-rest : goal.invariant-loop-rest
invariant-loop-rest g l = record {
  wrote : (front : List ℕ) × (l.initial.rest ≡ front ++ l.rest) × Appends (g.W.Sink.written l.initial.sink) (g.W.Sink.written l.sink) front;
  told : StaysTold (g.W.Sink.written l.initial.sink) (g.W.Sink.written l.sink);
  quiet : g.W.Sink.faults l.sink ≡ g.W.Sink.faults l.initial.sink;
  content : g.W.Sink.wants l.sink ≡ g.W.Sink.wants l.initial.sink;
}

abbrev pub decreases-loop-rest : goal.decreases-loop-rest
decreases-loop-rest g l = length l.rest
