-- How many rows the table has, as the query counts them.
use Rattle.std.proofs.Common.{◌≡◌, ℕ, suc, ◌+◌, min, pos, false, List, [], ◌∷◌, ◌++◌, map, length, Some, Ok, Err, Result, IfOk, refl, sym, ap, subst, ◌∙◌, arith, length-append, zero-add, if◌then◌else◌}
use Rattle.std.specs.List.{AllByRecursion, AllZip, flat_map, fold, filter, list_all}
use Rattle.std.specs.List.Sorted.{IsPermutation}
use Rattle.std.proofs.lemmas.List.Sorted.{length_permutation}
use Rattle.sqlite.specs.declared.types.Value.{Value}
use Rattle.sqlite.specs.declared.types.Value.TheVariants.{Null, Int}
use Rattle.sqlite.specs.Order.{Row, column}
use Rattle.sqlite.specs.Ops.{is_null}
use Rattle.sqlite.specs.Term.{Env, eval, col, holds}
use Rattle.sqlite.specs.Query.{IsAnswer, Output, output, page}
use Rattle.sqlite.specs.Program.{overlay}
use Rattle.sqlite.specs.Collation.TheVariants.{Binary}
use Rattle.sqlite.specs.declared.error.Error.{Error}
use Rattle.sqlite.specs.State.{State, QueriesRow}
use Rattle.sqlite_sql.specs.Group.{IsSummary, Summarizes, value_over}
use Rattle.sqlite_sql.specs.Aggregate.{skips, arguments, count}
use Rattle.sqlite_trees.proofs.ListLemmas.{all-permutation}
use Rattle.sqlite.proofs.Callers.{first_as, one_permutation}
use Rattle.rs_sqlite.specs.Limits.{max_rows}
use Rattle.rs_sqlite.specs.Tables.{kept_schema, entries_from, entries_of, HoldsRows}
use Rattle.rs_sqlite.proofs.Texts.{count_text, count_query, count_grouping, count_is, count_plain, unlisted}

-- each entry, as the query reads it
abbrev environments : List Row → List Env
environments = flat_map (λ r. ([] ∷ r ∷ []) ∷ [])

-- the bytes that an entry has
abbrev bytes_of : Env → Value
bytes_of = eval (col 1 2)

abbrev HasBytes : Env → Type 0
HasBytes env = is_null (bytes_of env) ≡ false

all_have : (first : ℕ) (rows : List (List ℕ)) → AllByRecursion HasBytes (environments (entries_from first rows))
all_have first [] = tt
all_have first (row ∷ rows) = (refl, all_have (first + 1) rows)

as_many : (first : ℕ) (rows : List (List ℕ)) → length (environments (entries_from first rows)) ≡ length rows
as_many first [] = refl
as_many first (row ∷ rows) = ap suc (as_many (first + 1) rows)

abbrev step : List Value → Value → List Value
step seen v = if skips Binary false seen v then seen else seen ++ v ∷ []

not_skipped : (seen : List Value) (v : Value) → is_null v ≡ false → step seen v ≡ seen ++ v ∷ []
not_skipped seen v there = rw there refl

none_skipped : (seen : List Value) (envs : List Env) → AllByRecursion HasBytes envs → length (fold step seen (map bytes_of envs)) ≡ length seen + length envs
none_skipped seen [] all = omega arith
none_skipped seen (env ∷ envs) all =
    let more = none_skipped (seen ++ bytes_of env ∷ []) envs all.1 in
    let long = length-append seen (bytes_of env ∷ []) in
    ap (λ next. length (fold step next (map bytes_of envs))) (not_skipped seen (bytes_of env) all.0) ∙ omega (arith, more, long)

counted : (order : List Env) (rows : List (List ℕ)) → IsPermutation (environments (entries_of rows)) order
    → length (arguments Binary false (map bytes_of order)) ≡ length rows
counted order rows same =
    none_skipped [] order (all-permutation HasBytes _ order same (all_have 1 rows)) ∙ zero-add (length order) ∙ length_permutation _ order same ∙ as_many 1 rows

first_value : (order : List Env) (r : Row) (rows : List (List ℕ)) → IsPermutation (environments (entries_of rows)) order → IsSummary count_grouping order r
    → column r 0 ≡ count (length rows)
first_value order r rows same (values, over, is) = ap (λ v. column v 0) is ∙ from values over
  where
    from : (vs : Row) → AllZip (λ a v. value_over order a ≡ Some v) count_grouping.aggregates vs → column vs 0 ≡ count (length rows)
    from [] all = absurd all
    from (v ∷ vs) all = let one : count (length (arguments Binary false (map bytes_of order))) ≡ v = cc in sym one ∙ ap count (counted order rows same)

one_group : (order : List Env) (rs : List Row) (rows : List (List ℕ)) → IsPermutation (environments (entries_of rows)) order → AllZip (IsSummary count_grouping) (order ∷ []) rs
    → (r : Row) × (rs ≡ r ∷ []) × (column r 0 ≡ count (length rows))
one_group order [] rows same all = absurd all
one_group order (r ∷ []) rows same all = (r, refl, first_value order r rows same all.0)
one_group order (r ∷ other ∷ others) rows same all = absurd all.1

-- the query answers with one row, whose first value is the number of rows
pub counts : (old new : State) (rows : List (List ℕ)) (out : Row) → HoldsRows old rows → QueriesRow count_text [] old new (Ok out) → column out 0 ≡ Int (pos (length rows))
counts old new rows out h ran =
    let got = (first_as count_text [] old new kept_schema h.schema _ count_is count_plain unlisted.1 out ran).1 in
    let a : IsAnswer count_query (overlay old.now.trees []) [] (out ∷ got.0) = got.1 Null in
    let it : Summarizes count_grouping [] (environments (old.now.trees 0)) a.staged = a.grouped in
    let order = it.grouping.0 in
    let same : IsPermutation (environments (entries_of rows)) order = subst (λ xs. IsPermutation (environments xs) order) h.table it.grouping.1 in
    let one = one_group order it.rows rows same (subst (λ groups. AllZip (IsSummary count_grouping) groups it.rows) it.grouping.2 it.summaries) in
    let staged : a.staged ≡ ([] ∷ one.0 ∷ []) ∷ [] = it.having ∙ ap (λ (rs : List Row). filter (λ env. list_all (holds env) count_grouping.having) (map (λ r. [] ∷ r ∷ []) rs)) one.1 in
    let o : Output = output count_query ([] ∷ one.0 ∷ []) in
    let kept : a.kept ≡ o ∷ [] = a.distinct ∙ ap (map (output count_query)) staged in
    let ordered = one_permutation o a.ordered (subst (λ k. IsPermutation k a.ordered) kept a.same) in
    let shown : out ∷ got.0 ≡ o.1 ∷ [] = a.shown ∙ ap (λ xs. page count_query [] (map (λ (p : Output). p.1) xs)) ordered in
    let first : out ≡ o.1 = cc in
    let few : min (length rows) max_rows ≡ length rows = omega (arith, h.few) in
    ap (λ r. column r 0) first ∙ one.2 ∙ ap (λ n. Int (pos n)) few

pub asked_count : (old new : State) (rows : List (List ℕ)) (r : Result Row Error) → HoldsRows old rows → QueriesRow count_text [] old new r
    → IfOk r (λ out. column out 0 ≡ Int (pos (length rows)))
asked_count old new rows (Err e) h ran = tt
asked_count old new rows (Ok out) h ran = counts old new rows out h ran
