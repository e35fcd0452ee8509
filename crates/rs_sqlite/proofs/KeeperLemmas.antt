-- A keeper from one call to the next.
use Rattle.std.proofs.Common.{◌≡◌, inl, ℕ, ◌+◌, List, [], ◌∷◌, ◌++◌, refl, ◌∙◌, arith, length-append}
use Rattle.sqlite.specs.Tree.{Trees}
use Rattle.sqlite.specs.Store.{Ghosts}
use Rattle.sqlite.specs.Held.{state}
use Rattle.sqlite.specs.State.{State, Survives}
use Rattle.rs_sqlite.specs.Tables.{HoldsRows, LeavesRows}
use Rattle.rs_sqlite.specs.Keeping.{Keeping, KeepsRows, StillKeeps}

-- nothing was done to the connection
pub nothing_done : (s : State) (P : Trees → Type 0) → Survives s s P
nothing_done s P = record {
  clean = omega arith;
  shield = λ it. it;
  counts = omega arith;
  limit = refl;
  closes = λ clean is_open. inl is_open;
  crash = λ clean db may. inl may;
}

module _ {S : Type 0} (g : Ghosts S) (old new : Keeping S) (rows : List (List ℕ)) (keeps : KeepsRows g old rows) where
  -- its connection still holds the rows, or was closed
  pub still_keeps : LeavesRows (state g new.connection) rows → new.rows ≡ old.rows → StillKeeps g new rows
  still_keeps leaves same = λ still. record { holds = leaves still; counts = same ∙ keeps.counts }

  -- its connection holds one row more, and it has counted that
  pub keeps_more : (row : List ℕ) → HoldsRows (state g new.connection) (rows ++ row ∷ []) → new.rows ≡ old.rows + 1 → KeepsRows g new (rows ++ row ∷ [])
  keeps_more row holds more = record {
    holds = holds;
    counts = let same = keeps.counts in let long = length-append rows (row ∷ []) in omega (arith, more, same, long);
  }
