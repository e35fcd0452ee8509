-- A database whose user version was set has its rows.
use Rattle.std.proofs.Common.{◌≡◌, ℕ, Bool, true, false, List, IsTrue, refl, sym, ap, subst, ◌∙◌}
use Rattle.sqlite_value.specs.Order.{Row}
use Rattle.sqlite.specs.Tree.{Trees}
use Rattle.sqlite.specs.State.{State, IsLive, Opens}
use Rattle.sqlite.specs.Steps.{IsFresh}
use Rattle.sqlite_catalog.specs.Listing.{IsSound, Lists}
use Rattle.sqlite_trees.specs.Objects.{catalog_tree, version_tree}
use Rattle.sqlite_trees.specs.Tree.{with_tree}
use Rattle.sqlite_trees.specs.View.{View, SetsTree, Commits, IsRolledBack}
use Rattle.rs_sqlite.specs.Tables.{HoldsRows}
use Rattle.rs_sqlite.proofs.ReopeningLemmas.{same_schema}

-- the list of objects and the table of rows are other trees
catalog_stays : (trees : Trees) (rows : List Row) → with_tree trees version_tree rows catalog_tree ≡ trees catalog_tree
catalog_stays trees rows = refl

table_stays : (trees : Trees) (rows : List Row) → with_tree trees version_tree rows 0 ≡ trees 0
table_stays trees rows = refl

pub version_is : (trees : Trees) (rows : List Row) → with_tree trees version_tree rows version_tree ≡ rows
version_is trees rows = refl

-- what was opened over the trees with another version
pub holds_with_version : (old new : State) (rows : List (List ℕ)) (version : List Row) → HoldsRows old rows → IsLive old → Opens new → IsLive new
    → new.now.trees ≡ with_tree old.now.trees version_tree version → HoldsRows new rows
holds_with_version old new rows version h old_is opens new_is set =
    let catalog : new.now.trees catalog_tree ≡ old.now.trees catalog_tree = ap (λ (t : Trees). t catalog_tree) set ∙ catalog_stays old.now.trees version in
    let before = subst (λ s. IsSound s old.now.trees) h.schema (old_is h.settled.is_open).0 in
    let after = (new_is opens.is_open).0 in
    record {
      settled = record { is_open = opens.is_open; autocommit = opens.autocommit; committed = sym opens.clean };
      few = h.few;
      schema = same_schema (old.now.trees catalog_tree) new.now.schema before.lists (subst (λ listed. Lists listed new.now.schema) catalog after.lists);
      table = ap (λ (t : Trees). t 0) set ∙ table_stays old.now.trees version ∙ h.table;
    }

-- ---- a store whose version was set and committed

module _ (old set new : View) (version : List Row) (sets : SetsTree old set version_tree (λ _. version)) (commits : Commits set new) where
  pub trees_then : new.trees ≡ with_tree old.trees version_tree version
  trees_then = ap (λ (v : View). v.trees) commits.is ∙ ap (λ (v : View). v.trees) sets.is

  -- it is as if it had just been opened
  pub fresh_then : IsTrue old.is_numbered → IsFresh new
  fresh_then numbered = record {
    sound = ap (λ (v : View). v.is_broken) commits.is ∙ commits.sound;
    numbered = subst (λ b. IsTrue b) (sym (ap (λ (v : View). v.is_numbered) commits.is ∙ ap (λ (v : View). v.is_numbered) sets.is)) numbered;
    clean = ap (λ (v : View). v.trees) commits.is ∙ sym (ap (λ (v : View). v.committed) commits.is);
    unmarked = ap (λ (v : View). v.marks) commits.is;
  }

open_if_sound : (is_open is_broken : Bool) → (is_open ≡ false → IsTrue is_broken) → is_broken ≡ false → IsTrue is_open
open_if_sound true is_broken shut sound = refl
open_if_sound false is_broken shut sound = let broken = shut refl in absurd (cc)

-- a store that was rolled back and isn't broken shows what was committed
pub undone_trees : (old new : View) → IsRolledBack old new → (new.is_open ≡ false → IsTrue new.is_broken) → new.is_broken ≡ false → old.committed ≡ old.trees
    → new.trees ≡ old.trees
undone_trees old new undone shut sound settled = (undone.undone (open_if_sound new.is_open new.is_broken shut sound)).0 ∙ settled
