use Rattle.std.proofs.Common.{◌≡◌, ◌^◌, ◌<◌}
use Rattle.rs_request.specs.Readers.{fed_count}
use Rattle.rs_message_tests.proofs.requests.drain.Given as goal

abbrev pub invariant-loop : goal.invariant-loop
invariant-loop l = fed_count l.fn.reader < 2 ^ 64 → fed_count l.reader ≡ fed_count l.fn.reader
