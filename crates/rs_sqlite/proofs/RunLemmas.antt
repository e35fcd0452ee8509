-- The rows that the query of rows in their order gives.
use Rattle.std.proofs.Common.{if◌then◌else◌, ◌≡◌, ◌⊎◌, inl, inr, ℕ, zero, suc, ◌+◌, ◌<◌, ◌≤◌, ℤ, pos, List, [], ◌∷◌, ◌++◌, Vec, map, length, take, drop, Some, Ok, Err, Result, IfOk, OnOk, OnErr, Less, refl, sym, ap, ap₂, subst, ◌∙◌, arith}
use Rattle.std.proofs.lemmas.Bool.{cases_lt}
use Rattle.std.proofs.lemmas.List.{map-append}
use Rattle.std.specs.List.{AllByRecursion, flat_map, list_all}
use Rattle.std.specs.List.Sorted.{IsPermutation}
use Rattle.sqlite.specs.declared.types.Value.{Value}
use Rattle.sqlite.specs.declared.types.Value.TheVariants.{Null, Int, Blob}
use Rattle.sqlite.specs.Order.{Row, column}
use Rattle.sqlite.specs.Ops.{binary}
use Rattle.sqlite.specs.Term.{Env, holds}
use Rattle.sqlite.specs.Query.{IsAnswer, Output, output, output_cmp, page}
use Rattle.sqlite.specs.Program.{overlay}
use Rattle.sqlite.specs.declared.error.Error.{Error}
use Rattle.sqlite.specs.Store.{Ghosts}
use Rattle.sqlite.specs.Held.{Held, state}
use Rattle.sqlite.specs.Given.{Advances, HasBegun, IsRefused}
use Rattle.sqlite.specs.Listing.{understood}
use Rattle.sqlite.specs.State.{State, HasCleanDisk, Survives, IsUnchanged, Fails, Begins, QueriesRow, CommitsShowing}
use Rattle.sqlite_sql.proofs.QueryLemmas.{output_cmp_total}
use Rattle.sqlite_trees.specs.Tree.{IsAscending}
use Rattle.sqlite_value.proofs.OrderLemmas.{value_cmp-Int}
use Rattle.sqlite_keyed.proofs.SortLemmas.{sorted_unique}
use Rattle.sqlite.proofs.StateLemmas.{survives_then}
use Rattle.sqlite.proofs.Callers.{IsPlain, begins_as, given_begin, begun_plain}
use Rattle.rs_face.specs.Rows.{IsRun}
use Rattle.rs_sqlite.specs.RowRuns.{run_text, HasBegunRun, HasShown, ShowsNext}
use Rattle.rs_sqlite.specs.Tables.{kept_schema, entry_at, entries_from, HoldsRows, LeavesRows}
use Rattle.rs_sqlite.proofs.Texts.{run_query, run_is, run_plain, run_unlisted}
use Rattle.rs_sqlite.proofs.StatementLemmas.{unchanged_holds, undone_holds, queried_holds, query_stops}
use Rattle.rs_sqlite.proofs.EntryLemmas.{numbers_below, numbers_above, numbers_same}

-- each way to fill the slots by an entry that passes the test
abbrev passed : ℕ → Row → List Env
passed n entry = if list_all (holds ((Int (pos n) ∷ []) ∷ entry ∷ [])) run_query.filter then ((Int (pos n) ∷ []) ∷ entry ∷ []) ∷ [] else []

-- what is shown of rows numbered from n, each beside its number, by which they are sorted
abbrev shown_from : ℕ → List (List ℕ) → List Output
shown_from n [] = []
shown_from n (row ∷ rows) = (Int (pos n) ∷ [], Blob row ∷ []) ∷ shown_from (n + 1) rows

not_passed : (n m : ℕ) (row : List ℕ) → m < n → passed n (entry_at m row) ≡ []
unfolding binary
not_passed n m row below = rw (value_cmp-Int, numbers_below m n below) refl

passed_above : (n m : ℕ) (row : List ℕ) → n < m → passed n (entry_at m row) ≡ ((Int (pos n) ∷ []) ∷ entry_at m row ∷ []) ∷ []
unfolding binary
passed_above n m row above = rw (value_cmp-Int, numbers_above m n above) refl

passed_same : (n : ℕ) (row : List ℕ) → passed n (entry_at n row) ≡ ((Int (pos n) ∷ []) ∷ entry_at n row ∷ []) ∷ []
unfolding binary
passed_same n row = rw (value_cmp-Int, numbers_same n) refl

passed_from : (n m : ℕ) (row : List ℕ) → n ≤ m → passed n (entry_at m row) ≡ ((Int (pos n) ∷ []) ∷ entry_at m row ∷ []) ∷ []
passed_from n m row from = elim (cases_lt n m) [
  | inl above ↦ passed_above n m row above
  | inr below ↦ let same : n ≡ m = omega (arith, from, below) in subst (λ k. passed n (entry_at k row) ≡ ((Int (pos n) ∷ []) ∷ entry_at k row ∷ []) ∷ []) same (passed_same n row)
]

all_shown : (n m : ℕ) (rows : List (List ℕ)) → n ≤ m → map (output run_query) (flat_map (passed n) (entries_from m rows)) ≡ shown_from m rows
all_shown n m [] from = refl
all_shown n m (row ∷ rows) from =
    rw (passed_from n m row from) (ap (λ more. (Int (pos m) ∷ [], Blob row ∷ []) ∷ more) (all_shown n (m + 1) rows (omega (arith, from))))

-- the rows from the number on are shown
rest_shown : (first i n : ℕ) (rows : List (List ℕ)) → n ≡ first + i → map (output run_query) (flat_map (passed n) (entries_from first rows)) ≡ shown_from n (drop i rows)
rest_shown first zero n rows is = let same : first ≡ n = omega (arith, is) in subst (λ m. map (output run_query) (flat_map (passed n) (entries_from m rows)) ≡ shown_from n rows) (sym same) (all_shown n n rows (omega arith))
rest_shown first (suc i) n [] is = refl
rest_shown first (suc i) n (row ∷ rows) is =
    let below : first < n = omega (arith, is) in
    rw (not_passed n first row below) (rest_shown (first + 1) i n rows (omega (arith, is)))

-- ---- they stand in the order of their numbers

later : (n m : ℕ) (row : List ℕ) (rows : List (List ℕ)) → n < m
    → AllByRecursion (λ b. output_cmp run_query (Int (pos n) ∷ [], Blob row ∷ []) b ≡ Less) (shown_from m rows)
later n m row [] below = tt
later n m row (r ∷ rows) below = (rw (value_cmp-Int, numbers_below n m below) refl, later n (m + 1) row rows (omega (arith, below)))

rising : (n : ℕ) (rows : List (List ℕ)) → IsAscending (λ a b. output_cmp run_query a b ≡ Less) (shown_from n rows)
rising n [] = tt
rising n (row ∷ rows) = (later n (n + 1) row rows (omega arith), rising (n + 1) rows)

first_values : (n : ℕ) (rows : List (List ℕ)) → map (λ r. column r 0) (map (λ (o : Output). o.1) (shown_from n rows)) ≡ map Blob rows
first_values n [] = refl
first_values n (row ∷ rows) = ap (λ more. Blob row ∷ more) (first_values (n + 1) rows)

-- ---- a front of them

front_is : {Z : Type 0} (run : List (Vec ℕ Z)) (rest : List Value) (rows : List (List ℕ)) → map (λ v. Blob v.items) run ++ rest ≡ map Blob rows
    → take (length run) rows ≡ map (λ v. v.items) run
front_is [] rest rows same = refl
front_is (v ∷ run) rest [] same = absurd cc
front_is (v ∷ run) rest (row ∷ rows) same =
    let here : row ≡ v.items = cc in
    let more : map (λ v. Blob v.items) run ++ rest ≡ map Blob rows = cc in
    ap (λ r. r ∷ take (length run) rows) here ∙ ap (λ l. v.items ∷ l) (front_is run rest rows more)

-- rows that begin an answer are those from the number on
pub begins_run : {Z : Type 0} (s : State) (rows : List (List ℕ)) (i : ℕ) (given : List Row) (run : List (Vec ℕ Z)) → HoldsRows s rows
    → Begins run_text (Int (pos (1 + i)) ∷ []) s given → map (λ r. column r 0) given ≡ map (λ v. Blob v.items) run → IsRun rows i run
begins_run s rows i given run h begun bytes =
    let params = Int (pos (1 + i)) ∷ [] in
    let got = (begins_as run_text params s s kept_schema h.schema _ run_is run_plain run_unlisted given begun).1 in
    let a : IsAnswer run_query (overlay s.now.trees []) params (given ++ got.0) = got.1 Null in
    let shown = shown_from (1 + i) (drop i rows) in
    let kept : a.kept ≡ shown = a.distinct ∙ ap (map (output run_query)) a.grouped ∙ rw h.table (rest_shown 1 i (1 + i) rows refl) in
    let ordered : a.ordered ≡ shown = sorted_unique (output_cmp run_query) (output_cmp_total run_query) shown a.ordered (rising (1 + i) (drop i rows)) (subst (λ k. IsPermutation k a.ordered) kept a.same) a.sorted in
    let all : given ++ got.0 ≡ map (λ (o : Output). o.1) shown = a.shown ∙ ap (λ xs. page run_query params (map (λ (o : Output). o.1) xs)) ordered in
    let values : map (λ r. column r 0) given ++ map (λ r. column r 0) got.0 ≡ map Blob (drop i rows) =
    sym (map-append (λ r. column r 0) given got.0) ∙ ap (map (λ r. column r 0)) all ∙ first_values (1 + i) (drop i rows) in
    front_is run (map (λ r. column r 0) got.0) (drop i rows) (ap (λ l. l ++ map (λ r. column r 0) got.0) (sym bytes) ∙ values)

-- ---- the query from one row to the next

-- no row is given yet
pub nothing_shown : {S Z : Type 0} (g : Ghosts S) (params : Row) (h : Held S) → HasBegunRun g params h → HasShown {Z = Z} g params h []
nothing_shown g params h begun = record { given = []; under_way = begun; bytes = refl }

-- one more is given
pub shows_next : {S Z : Type 0} (g : Ghosts S) (old new : Held S) (row : Row) (bytes : Vec ℕ Z) → Advances g old new (Some row) → column row 0 ≡ Blob bytes.items → ShowsNext g old new bytes
shows_next g old new row bytes moved is params run it = record {
  given = it.given ++ row ∷ [];
  under_way = moved run_text params it.given it.under_way;
  bytes = map-append (λ r. column r 0) it.given (row ∷ []) ∙ ap₂ ◌++◌ it.bytes (ap (λ v. v ∷ []) is) ∙ sym (map-append (λ v. Blob v.items) run (bytes ∷ []));
}

-- the rows that were given are those from the number on
pub gives_run : {S Z : Type 0} (g : Ghosts S) (h : Held S) (rows : List (List ℕ)) (i : ℕ) (run : List (Vec ℕ Z)) → HoldsRows (state g h) rows → HasShown g (Int (pos (1 + i)) ∷ []) h run → IsRun rows i run
gives_run g h rows i run holds it = begins_run (state g h) rows i it.given run holds (given_begin g run_text (Int (pos (1 + i)) ∷ []) h it.given it.under_way) it.bytes

-- a step that failed left the rows
pub failed_leaves : (old new : State) (rows : List (List ℕ)) (e : Error) → Fails old new ⊥ e ⊎ IsUnchanged old new → HoldsRows old rows → LeavesRows new rows
failed_leaves old new rows e (inl fails) h = λ still. undone_holds old new rows fails.3 still h
failed_leaves old new rows e (inr same) h = λ still. unchanged_holds old new rows same h

-- a query that begins, and one that doesn't
pub begins_first : {S : Type 0} (g : Ghosts S) (params : Row) (old new : Held S) (rows : List (List ℕ)) → HoldsRows (state g old) rows → HasBegun g run_text params old new
    → HasBegunRun g params new × HoldsRows (state g new) rows
begins_first g params old new rows h begun =
    let it = begun_plain g run_text params old new (subst (λ s. IsPlain (understood s run_text)) (sym h.schema) run_plain) begun in
    (it.0, unchanged_holds (state g old) (state g new) rows it.1 h)

-- ---- a query that is refused

module _ {S X : Type 0} (g : Ghosts S) (params : Row) (old new : Held S) (rows : List (List ℕ)) (h : HoldsRows (state g old) rows) where
  pub refused_leaves : (r : Result X Error) → HasCleanDisk (state g new) → OnErr r (IsRefused g run_text params old r new) → OnErr r (LeavesRows (state g new) rows)
  unfolding QueriesRow
  refused_leaves (Ok x) clean it = tt
  refused_leaves (Err e) clean it = λ still. queried_holds run_text params (state g old) (state g new) rows run_plain h (Err e) (inl (it.err clean)) still

  pub refused_stops : (r : Result X Error) → OnErr r (IsRefused g run_text params old r new) → OnErr r (Survives (state g old) (state g new) (λ _. ⊥))
  refused_stops (Ok x) it = tt
  refused_stops (Err e) it = query_stops run_text params (state g old) (state g new) rows run_plain h it.survives

-- ---- a query that begins, and whose rows are taken

-- a stop leaves what it could leave before
pub taken_stops : {S : Type 0} (g : Ghosts S) (params : Row) (old mid new : Held S) (rows : List (List ℕ)) → HoldsRows (state g old) rows
    → Survives (state g old) (state g mid) (CommitsShowing run_text params (state g old)) → Survives (state g mid) (state g new) (λ _. ⊥) → Survives (state g old) (state g new) (λ _. ⊥)
taken_stops g params old mid new rows h one two =
    survives_then (state g old) (state g mid) (state g new) (λ _. ⊥) (λ _. ⊥) (λ _. ⊥) (λ clean db none. none) (λ clean db none. none)
    (query_stops run_text params (state g old) (state g mid) rows run_plain h one) two

module _ {S : Type 0} (g : Ghosts S) (z : ℤ) (old mid new : Held S) (rows : List (List ℕ)) (h : HoldsRows (state g old) rows)
    (begun : HasCleanDisk (state g mid) → HasBegun g run_text (Int z ∷ []) old mid) (stop : Survives (state g mid) (state g new) (λ _. ⊥)) (clean : HasCleanDisk (state g new)) where
  begun_first : HasBegunRun g (Int z ∷ []) mid × HoldsRows (state g mid) rows
  begun_first = begins_first g (Int z ∷ []) old mid rows h (begun (omega (arith, stop.clean, clean)))

  -- the rows that were taken are those from the number on
  pub taken_run : {Z W : Type 0} (i : ℕ) (r : Result (Vec (Vec ℕ Z) W) Error) → z ≡ pos (1 + i)
      → (HasBegunRun g (Int z ∷ []) mid → IfOk r (λ run. HasShown g (Int z ∷ []) new run.items)) → (HoldsRows (state g mid) rows → OnOk r (HoldsRows (state g new) rows))
      → IfOk r (λ run. IsRun rows i run.items)
  taken_run i (Err e) is shown holds = tt
  taken_run i (Ok run) is shown holds =
      gives_run g new rows i run.items (holds begun_first.1) (subst (λ k. HasShown g (Int k ∷ []) new run.items) is (shown begun_first.0))

  -- the table is left
  pub taken_leaves : {A : Type 0} (r : Result A Error) → (HoldsRows (state g mid) rows → OnOk r (HoldsRows (state g new) rows))
      → (HoldsRows (state g mid) rows → OnErr r (LeavesRows (state g new) rows)) → LeavesRows (state g new) rows
  taken_leaves (Ok x) holds leaves = λ still. holds begun_first.1
  taken_leaves (Err e) holds leaves = leaves begun_first.1

-- ---- so many rows were given so far

pub record RunSoFar {S Z : Type 0} (g : Ghosts S) (old now : Held S) (run : List (Vec ℕ Z)) (count : ℕ) : Type 0 where
  pub as_many : length run ≡ count
  pub stop : Survives (state g old) (state g now) (λ _. ⊥)
  pub shown : HasCleanDisk (state g now) → (params : Row) → HasBegunRun g params old → HasShown g params now run
  pub holds : HasCleanDisk (state g now) → (told : List (List ℕ)) → HoldsRows (state g old) told → HoldsRows (state g now) told
