use Rattle.std.proofs.Common.{◌≡◌}
use Rattle.rs_turn_tests.proofs.counting.count_often.Given as goal

abbrev pub invariant-loop : goal.invariant-loop
invariant-loop g l = l.seat.lock ≡ l.lock
