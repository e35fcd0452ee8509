use Rattle.std.proofs.Common.{◌≡◌, ◌-◌, ◌≤◌, length}
use Rattle.rs_request.specs.Readers.{fed_count}
use Rattle.rs_message_tests.proofs.requests.outcome.Given as goal

abbrev pub invariant-loop-fed : goal.invariant-loop-fed
invariant-loop-fed l = record { fed : fed_count l.reader ≡ l.fed; within : l.fed ≤ length l.input }

abbrev pub decreases-loop-fed : goal.decreases-loop-fed
decreases-loop-fed l = length l.input - l.fed
