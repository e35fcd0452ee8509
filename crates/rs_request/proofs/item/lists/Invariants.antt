use Rattle.std.proofs.Common.{◌≡◌, length}
use Rattle.rs_request.specs.Items.{lists}
use Rattle.rs_request.proofs.item.lists.Given as goal

abbrev pub invariant-loop-comma : goal.invariant-loop-comma
invariant-loop-comma l = lists l.item l.rest ≡ lists l.item l.value

abbrev pub decreases-loop-comma : goal.decreases-loop-comma
decreases-loop-comma l = length l.rest
