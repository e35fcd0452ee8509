use Rattle.std.proofs.Common.{◌≡◌, drop}
use Rattle.rs_path.specs.Readings.{has_whole_escapes}
use Rattle.rs_path.proofs.reading.has_whole_escapes.Given as goal

abbrev pub invariant-loop-i : goal.invariant-loop-i
invariant-loop-i l = has_whole_escapes (drop l.i l.segment) ≡ has_whole_escapes l.segment
