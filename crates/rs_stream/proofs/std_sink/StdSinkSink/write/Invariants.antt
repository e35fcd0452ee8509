-- No write that was interrupted took a byte, and none is counted.
use Rattle.std.proofs.Common.{◌≡◌}
use Rattle.std.specs.Io.KnownBytes.{Keeps}
use Rattle.rs_stream.proofs.std_sink.StdSinkSink.write.Given as goal

abbrev pub invariant-again : goal.invariant-again
invariant-again g l = record {
  faults : l.self-inside.faults ≡ l.fn.self.faults;
  kept : Keeps (g.W.Write.contents l.fn.self.inner) (g.W.Write.contents l.self-inside.writer);
}
