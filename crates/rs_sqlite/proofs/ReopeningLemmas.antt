-- What a database that is opened again holds.
use Rattle.std.proofs.Common.{◌≡◌, ℕ, ◌+◌, pos, List, [], ◌∷◌, Result, Ok, Err, IfOk, refl, sym, ap, subst, ◌∙◌, arith}
use Rattle.std.specs.List.{AllZip}
use Rattle.sqlite.specs.declared.types.Value.TheVariants.{Int, Text}
use Rattle.sqlite.specs.Order.{Row}
use Rattle.sqlite.specs.Table.{Table}
use Rattle.sqlite.specs.Schema.{Schema}
use Rattle.sqlite.specs.Tree.{Trees}
use Rattle.sqlite.specs.Effect.{Database}
use Rattle.sqlite.specs.State.{State, IsLive, Opens}
use Rattle.sqlite_catalog.specs.Listing.{IsTableRow, IsSound, Lists}
use Rattle.sqlite_trees.specs.Objects.{catalog_tree}
use Rattle.rs_sqlite.specs.Tables.{kept_table, kept_schema, HoldsRows}

-- ---- a catalog that lists the table of rows alone lists no other schema

same_table : (row : Row) (table : Table) → IsTableRow row kept_table → IsTableRow row table → table ≡ kept_table
same_table row table one other =
    let texts : Text one.sql ≡ Text other.sql = sym one.sql_is ∙ other.sql_is in
    let text : one.sql ≡ other.sql = cc in
    let first = one.defined in
    let second = other.defined in
    let read = first.1 in
    let again = second.1 in
    let made : second.0 ≡ first.0 = cc in
    let places : Int (pos (table.tree + 1)) ≡ Int (pos 1) = sym other.described.id ∙ one.described.id in
    let numbers : table.tree + 1 ≡ 1 = cc in
    let place : table.tree ≡ 0 = omega (arith, numbers) in
    second.2 ∙ ap (λ (t : Table). record t { tree = table.tree }) made ∙ ap (λ n. record first.0 { tree = n }) place ∙ sym first.2

one_table : (rows : List Row) (tables : List Table) → AllZip IsTableRow rows (kept_table ∷ []) → AllZip IsTableRow rows tables → tables ≡ kept_table ∷ []
one_table [] tables all other = absurd all
one_table (row ∷ []) [] all other = absurd other
one_table (row ∷ []) (table ∷ []) all other = ap (λ (t : Table). t ∷ []) (same_table row table all.0 other.0)
one_table (row ∷ []) (table ∷ more ∷ rest) all other = absurd other.1
one_table (row ∷ more ∷ rest) tables all other = absurd all.1

none_else : {A : Type 0} (P Q : Row → A → Type 0) (rows : List Row) (xs : List A) → AllZip P rows [] → AllZip Q rows xs → xs ≡ []
none_else P Q [] [] all other = refl
none_else P Q [] (x ∷ xs) all other = absurd other
none_else P Q (row ∷ rows) xs all other = absurd all

pub same_schema : (catalog : List Row) (other : Schema) → Lists catalog kept_schema → Lists catalog other → other ≡ kept_schema
same_schema catalog other one two =
    let first = one.listed in
    let second = two.listed in
    let tables = one_table _ other.tables first.tables second.tables in
    let indexes = none_else _ _ _ other.indexes first.indexes second.indexes in
    let views = none_else _ _ _ other.views first.views second.views in
    ap (λ ts. record { tables = ts; indexes = other.indexes; views = other.views }) tables
    ∙ ap (λ xs. record { tables = kept_table ∷ []; indexes = xs; views = other.views }) indexes
    ∙ ap (λ vs. record { tables = kept_table ∷ []; indexes = []; views = vs }) views

-- ---- what was committed is found again

pub holds_again : (old new : State) (rows : List (List ℕ)) → HoldsRows old rows → IsLive old → Opens new → IsLive new → new.committed.trees ≡ old.committed.trees → HoldsRows new rows
holds_again old new rows h old_is opens new_is same =
    let trees : new.now.trees ≡ old.now.trees =
    ap (λ (d : Database). d.trees) opens.clean ∙ same ∙ ap (λ (d : Database). d.trees) h.settled.committed in
    let before = subst (λ s. IsSound s old.now.trees) h.schema (old_is h.settled.is_open).0 in
    let after = subst (λ t. IsSound new.now.schema t) trees (new_is opens.is_open).0 in
    record {
      settled = record { is_open = opens.is_open; autocommit = opens.autocommit; committed = sym opens.clean };
      few = h.few;
      schema = same_schema (old.now.trees catalog_tree) new.now.schema before.lists after.lists;
      table = ap (λ (t : Trees). t 0) trees ∙ h.table;
    }

-- what an opening gives where the disk is clean after it, by what was there before
pub if_clean : {A E : Type 0} (r : Result A E) (Clean Holds : A → Type 0) (Before Opens : Type 0) → IfOk r (λ x. Clean x → Before) → (Before → Opens) → (Opens → IfOk r (λ x. Clean x → Holds x))
    → IfOk r (λ x. Clean x → Holds x)
if_clean (Ok x) Clean Holds Before Opens clean opens holds = λ now. holds (opens (clean now)) now
if_clean (Err e) Clean Holds Before Opens clean opens holds = tt
