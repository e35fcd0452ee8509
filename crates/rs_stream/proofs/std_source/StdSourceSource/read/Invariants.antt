-- No read that was interrupted took a byte, and none is counted.
use Rattle.std.proofs.Common.{◌≡◌}
use Rattle.std.specs.Io.KnownBytes.{Keeps}
use Rattle.rs_stream.proofs.std_source.StdSourceSource.read.Given as goal

abbrev pub invariant-again : goal.invariant-again
invariant-again g l = record {
  faults : l.self-inside.faults ≡ l.fn.self.faults;
  kept : Keeps (g.R.Read.remaining l.fn.self.inner) (g.R.Read.remaining l.self-inside.reader);
}
