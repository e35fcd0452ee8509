use Rattle.std.proofs.Common.{vec_len}
use Rattle.rs_hall.proofs.EntranceLemmas.{LocksSoFar}
use Rattle.rs_hall.proofs.opening.lock_rooms.Given as goal

abbrev pub invariant-loop-state : goal.invariant-loop-state
invariant-loop-state g l =
    LocksSoFar g.T.Tree.stands g.K.Keeper.rows g.K.Keeper.row_count l.fn.keepers.items l.fn.states.items l.keepers.items l.states.items l.locks.items l.each.items

abbrev pub decreases-loop-state : goal.decreases-loop-state
decreases-loop-state g l = vec_len l.states
