use Rattle.std.proofs.Common.{◌≡◌, ◌+◌, ℕ, List, length}
use Rattle.rs_row.proofs.OpeningLemmas.{HasTaken}
use Rattle.rs_row.proofs.opening.take_run.Given as goal

abbrev pub invariant-loop-row : goal.invariant-loop-row
invariant-loop-row g l = record {
  taken : (rows : List (List ℕ)) → g.S.Replayed.made_of l.fn.state rows → length rows ≡ l.fn.index
      → HasTaken g.S.Replayed.refusal g.S.Replayed.made_of l.state rows l.run l.row-index;
  place : l.place ≡ l.fn.index + l.row-index;
  setting : g.S.Replayed.setting l.state ≡ g.S.Replayed.setting l.fn.state;
}
