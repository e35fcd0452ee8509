use Rattle.std.proofs.Common.{◌≡◌, ◌≤◌, length}
use Rattle.rs_talk.specs.Places.{last_part}
use Rattle.rs_talk.proofs.places.last_part.Given as goal

abbrev pub invariant-loop-next : goal.invariant-loop-next
invariant-loop-next l = record {
  same : last_part l.rest ≡ last_part l.heads;
  within : length l.rest ≤ length l.heads;
}

abbrev pub decreases-loop-next : goal.decreases-loop-next
decreases-loop-next l = length l.rest
