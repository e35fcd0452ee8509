use Rattle.std.proofs.Common.{◌≡◌, ◌≤◌, ◌-◌, drop, length}
use Rattle.std.specs.Io.KnownBytes.{Keeps, append_known}
use Rattle.rs_face.specs.Told.{StaysTold}
use Rattle.rs_stream.specs.HeldBytes.{told_of}
use Rattle.rs_stream.proofs.held_sink.HeldSink.send.Given as goal

-- what is told is as it was, and nothing failed or wanted memory
abbrev pub invariant-sending : goal.invariant-sending
invariant-sending g l = record {
  within : l.self-inside.sent ≤ length l.self-inside.bytes.items;
  keeps : Keeps (told_of g.W.Sink.written l.fn.self) (append_known (g.W.Sink.written l.self-inside.sink) (drop l.self-inside.sent l.self-inside.bytes.items));
  told : StaysTold (told_of g.W.Sink.written l.fn.self) (append_known (g.W.Sink.written l.self-inside.sink) (drop l.self-inside.sent l.self-inside.bytes.items));
  quiet : g.W.Sink.faults l.self-inside.sink ≡ g.W.Sink.faults l.fn.self.inner;
  content : g.W.Sink.wants l.self-inside.sink ≡ g.W.Sink.wants l.fn.self.inner;
}

abbrev pub decreases-sending : goal.decreases-sending
decreases-sending g l = length l.self-inside.bytes.items - l.self-inside.sent
