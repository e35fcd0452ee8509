use Rattle.std.proofs.Common.{◌≡◌, ◌^◌, ◌<◌, length}
use Rattle.rs_request.specs.Readings.{Fed}
use Rattle.rs_request.specs.Readers.{Stands, fed_count}
use Rattle.rs_request.proofs.reader.RequestReader.next.Given as goal

abbrev pub invariant-loop-step : goal.invariant-loop-step
invariant-loop-step l = record {
  stands : (fed : Fed) → Stands l.fn.self fed → Stands l.self fed;
  count : fed_count l.fn.self < 2 ^ 64 → fed_count l.self ≡ fed_count l.fn.self;
}

abbrev pub decreases-loop-step : goal.decreases-loop-step
decreases-loop-step l = length l.self.buffer
