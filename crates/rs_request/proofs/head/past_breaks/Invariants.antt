use Rattle.std.proofs.Common.{◌≡◌, length}
use Rattle.rs_request.specs.Lines.{past_breaks}
use Rattle.rs_request.proofs.head.past_breaks.Given as goal

abbrev pub invariant-loop-bytes : goal.invariant-loop-bytes
invariant-loop-bytes l = past_breaks l.bytes ≡ past_breaks l.fn.bytes

abbrev pub decreases-loop-bytes : goal.decreases-loop-bytes
decreases-loop-bytes l = length l.bytes
