use Rattle.std.proofs.Common.{vec_len}
use Rattle.rs_hall.proofs.ClosingLemmas.{ClosesSoFar}
use Rattle.rs_hall.proofs.hall.Hall.close.Given as goal

abbrev pub invariant-loop-lock : goal.invariant-loop-lock
invariant-loop-lock g l =
    ClosesSoFar g.T.Tree.stands g.K.Keeper.rows g.K.Keeper.row_count l.fn.seats.each.items l.locks.items l.each.items l.keepers.items

abbrev pub decreases-loop-lock : goal.decreases-loop-lock
decreases-loop-lock g l = vec_len l.locks
