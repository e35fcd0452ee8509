use Rattle.std.proofs.Common.{◌≡◌, ◌-◌, Some, take, length}
use Rattle.rs_request.specs.declared.search.Spot.{Spot}
use Rattle.rs_request.specs.Lines.{spot_after}
use Rattle.rs_request.specs.Sought.{IsSought}
use Rattle.rs_request.proofs.search.Search.seek.Given as goal

abbrev pub invariant-loop-at : goal.invariant-loop-at
invariant-loop-at l = (start : Spot) → IsSought start l.fn.self l.bytes → spot_after start (take l.at l.bytes) ≡ Some l.spot

abbrev pub decreases-loop-at : goal.decreases-loop-at
decreases-loop-at l = length l.bytes - l.at
