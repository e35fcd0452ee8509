-- The rows that a keeper tells are those that are kept.
use Rattle.std.proofs.Common.{◌≡◌, ℕ, ◌+◌, Some, Result, Ok, Err, OnOk, OnErr, is_ok, if◌then◌else◌, List, [], ◌∷◌, ◌++◌, map, length, IsTrue, inl, inr, refl, sym, ap, subst, ◌∙◌, arith}
use Rattle.sqlite.specs.Tree.{Trees}
use Rattle.sqlite.specs.Store.{Ghosts}
use Rattle.sqlite.specs.Held.{state}
use Rattle.sqlite.specs.State.{State, HasCleanDisk, Survives}
use Rattle.sqlite.specs.Steps.{IsEmpty}
use Rattle.rs_sqlite.specs.Tables.{bytes_in, rows_in, entries_from, HoldsRows, IsOpenedAs}
use Rattle.rs_sqlite.specs.Keeping.{Keeping, KeepsRows, StillKeeps}

bytes_of_entries : (n : ℕ) (rows : List (List ℕ)) → map bytes_in (entries_from n rows) ≡ rows
bytes_of_entries n [] = refl
bytes_of_entries n (row ∷ rows) = ap (λ more. row ∷ more) (bytes_of_entries (n + 1) rows)

-- the table has the rows that it holds
pub told_rows : (s : State) (rows : List (List ℕ)) → HoldsRows s rows → rows_in s.now.trees ≡ rows
told_rows s rows h = ap (map bytes_in) h.table ∙ bytes_of_entries 1 rows

-- a keeper of some rows is one of the rows that it tells
pub keeps_told : {S : Type 0} (g : Ghosts S) (keeper : Keeping S) (rows : List (List ℕ)) → KeepsRows g keeper rows → KeepsRows g keeper (rows_in (state g keeper.connection).now.trees)
keeps_told g keeper rows it = subst (KeepsRows g keeper) (sym (told_rows _ rows it.holds)) it

-- a new database is opened as no rows
pub nothing_yet : (s : State) → IsEmpty s → IsOpenedAs s []
nothing_yet s it = inr (record { settled = record { is_open = it.0.is_open; autocommit = it.0.autocommit; committed = sym it.0.clean }; schema = it.2 }, refl)

-- a connection without a fault stays open
pub stays_open : (old new : State) (P : Trees → Type 0) → Survives old new P → HasCleanDisk new → new.faults ≡ 0 → IsTrue old.is_open → IsTrue new.is_open
stays_open old new P survives clean none is_open = elim (survives.closes clean is_open) [
  | inl still ↦ still
  | inr more ↦ absurd (omega (arith, more, none))
]

-- the rows that a keeper tells
abbrev pub told_by : {S : Type 0} → Ghosts S → Keeping S → List (List ℕ)
told_by g keeper = rows_in (state g keeper.connection).now.trees

-- ---- an append over a store that is clean and never fails

module _ {S A E : Type 0} (g : Ghosts S) (old new : Keeping S) (row : List ℕ) (keeps : KeepsRows g old (told_by g old)) where
  -- it kept what it says
  pub append_keeps : (P : Trees → Type 0) (r : Result A E) → Survives (state g old.connection) (state g new.connection) P → HasCleanDisk (state g new.connection)
      → (state g new.connection).faults ≡ 0 → OnOk r (KeepsRows g new (told_by g old ++ row ∷ [])) → OnErr r (StillKeeps g new (told_by g old)) → KeepsRows g new (told_by g new)
  append_keeps P (Ok x) survives clean none appended refused = keeps_told g new (told_by g old ++ row ∷ []) appended
  append_keeps P (Err e) survives clean none appended refused =
      keeps_told g new (told_by g old) (refused (stays_open (state g old.connection) (state g new.connection) P survives clean none keeps.holds.settled.is_open))

  -- the rows that are told grow by the row
  pub append_tells : (r : Result A E) → OnOk r (KeepsRows g new (told_by g old ++ row ∷ [])) → OnOk r (Some (told_by g new) ≡ Some (told_by g old ++ row ∷ []))
  append_tells (Ok x) appended = ap Some (told_rows (state g new.connection) (told_by g old ++ row ∷ []) appended.holds)
  append_tells (Err e) appended = tt

  -- so many rows are told as it counts
  pub append_counts : (r : Result A E) → KeepsRows g new (told_by g new) → new.rows ≡ (if is_ok r then old.rows + 1 else old.rows)
      → length (told_by g new) ≡ (if is_ok r then length (told_by g old) + 1 else length (told_by g old))
  append_counts (Ok x) now count = let before = keeps.counts in let after = now.counts in omega (arith, before, after, count)
  append_counts (Err e) now count = let before = keeps.counts in let after = now.counts in omega (arith, before, after, count)
