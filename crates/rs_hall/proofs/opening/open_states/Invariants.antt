use Rattle.rs_hall.proofs.EntranceLemmas.{OpensSoFar}
use Rattle.rs_hall.proofs.opening.open_states.Given as goal

abbrev pub invariant-loop-place : goal.invariant-loop-place
invariant-loop-place g l =
    OpensSoFar g.T.Tree.stands g.K.Keeper.rows g.K.Keeper.row_count g.K.Keeper.faults l.quotas l.fn.keepers.items l.keepers.items l.states.items l.place
