use Rattle.std.proofs.Common.{◌≡◌}
use Rattle.rs_turn_tests.proofs.counting.a_failed_deed_raises_faults_by_one.Given as goal

abbrev pub invariant-loop-answer : goal.invariant-loop-answer
invariant-loop-answer g l = l.seat.lock ≡ l.lock
