use Rattle.std.proofs.Common.{◌≡◌, ◌≤◌, ◌-◌, ℕ, List}
use Rattle.rs_row.proofs.OpeningLemmas.{IsTakenSoFar}
use Rattle.rs_row.proofs.opening.open_rows.Given as goal

abbrev pub invariant-loop-index : goal.invariant-loop-index
invariant-loop-index g l =
    (rows : List (List ℕ)) × IsTakenSoFar g.S.Replayed.refusal g.S.Replayed.made_of l.state rows (g.K.Keeper.rows l.fn.keeper) l.index
    × (l.index ≤ g.K.Keeper.row_count l.fn.keeper)
    × (g.K.Keeper.rows l.keeper ≡ g.K.Keeper.rows l.fn.keeper) × (g.K.Keeper.row_count l.keeper ≡ g.K.Keeper.row_count l.fn.keeper)
    × (g.K.Keeper.faults l.fn.keeper ≤ g.K.Keeper.faults l.keeper)
    × (g.S.Replayed.setting l.state ≡ g.S.Replayed.setting l.fn.nothing)

abbrev pub decreases-loop-index : goal.decreases-loop-index
decreases-loop-index g l = g.K.Keeper.row_count l.fn.keeper - l.index
