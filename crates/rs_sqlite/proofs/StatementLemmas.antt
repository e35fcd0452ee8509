-- What the statements do to a database that holds rows.
use Rattle.std.proofs.Common.{◌≡◌, ◌⊎◌, inl, inr, ℕ, ◌+◌, ◌≤◌, ℤ, pos, List, [], ◌∷◌, ◌++◌, map, length, slice_get, true, false, Some, None, Ok, Err, Result, IfOk, OnOk, OnErr, IsOk, IsTrue, refl, sym, ap, subst, ◌∙◌, arith, length-append}
use Rattle.std.proofs.lemmas.Bool.{cases_Bool}
use Rattle.std.specs.List.Sorted.{IsPermutation}
use Rattle.sqlite.specs.declared.types.Value.TheVariants.{Null, Int, Blob}
use Rattle.sqlite.specs.Order.{Row, column}
use Rattle.sqlite.specs.Source.TheVariants.{Values}
use Rattle.sqlite.specs.Command.TheVariants.{Insert, CreateTable, Nothing}
use Rattle.sqlite.specs.Edit.{edit_of, edited}
use Rattle.sqlite.specs.Rowids.TheVariants.{Chosen}
use Rattle.sqlite.specs.Change.{created, next_tree}
use Rattle.sqlite.specs.Does.{Tally, Does, lacks_sequence}
use Rattle.sqlite.specs.Rows.{Written}
use Rattle.sqlite.specs.Tree.{Trees}
use Rattle.sqlite.specs.declared.error.Error.{Error}
use Rattle.sqlite.specs.Listing.{understood}
use Rattle.sqlite.specs.Effect.{Database}
use Rattle.sqlite.specs.State.{State, mode_of, Executes, ExecutesIn, IsNotRun, IsUnchanged, IsRolledBack, shows_rows, CommitsBy, QueriesRow, Shown, ShowsRows, FailsToQuery, FailsToShow, MayCommit, text_of, Survives, CommitsShowing}
use Rattle.sqlite.specs.Clock.{timed}
use Rattle.sqlite.specs.Query.{IsAnswer, Output, output, page}
use Rattle.sqlite.specs.Program.{overlay}
use Rattle.sqlite.proofs.Callers.{IsPlain, command_of, statement_of, runs_as, first_as, one_step, one_permutation, never_commits}
use Rattle.sqlite.proofs.StateLemmas.{survives_weaker}
use Rattle.rs_sqlite.specs.Limits.{max_rows}
use Rattle.rs_sqlite.specs.Tables.{kept_table, kept_schema, empty_schema, entry_at, entries_of, HoldsNothing, HoldsRows, IsOpenedAs, LeavesRows, HasRows}
use Rattle.rs_sqlite.proofs.Texts.{create_text, insert_text, fetch_text, insert_terms, fetch_query, create_is, create_again_is, insert_is, fetch_is, unlisted, create_plain, create_again_plain, insert_plain, fetch_plain}
use Rattle.rs_sqlite.proofs.EntryLemmas.{cast-Int, cast-Null, put_behind, one_picked}

-- a part that gave a value did not stop on the way
went : {B E R : Type 0} {b : B} {Stops : E → Type 0} → ((stop : E) × Stops stop × (Ok b ≡ Err stop)) ⊎ R → R
went (inl stopped) = absurd (let e = stopped.2 in cc)
went (inr on) = on

same_value : {B E : Type 0} {a b : B} → ◌≡◌ {A = Result B E} (Ok a) (Ok b) → a ≡ b
same_value e = cc

-- ---- statements that change nothing, or are undone

pub unchanged_holds : (old new : State) (rows : List (List ℕ)) → IsUnchanged old new → HoldsRows old rows → HoldsRows new rows
unchanged_holds old new rows same h = record {
  settled = record {
    is_open = same.0.is_open;
    autocommit = same.0.mode ∙ h.settled.autocommit;
    committed = same.0.committed_is ∙ h.settled.committed ∙ sym same.0.now_is;
  };
  few = h.few;
  schema = ap (λ (d : Database). d.schema) same.0.now_is ∙ h.schema;
  table = ap (λ (d : Database). d.trees 0) same.0.now_is ∙ h.table;
}

pub undone_holds : (old new : State) (rows : List (List ℕ)) → IsRolledBack old new → IsTrue new.is_open → HoldsRows old rows → HoldsRows new rows
undone_holds old new rows undone is_open h =
    let both = undone.undone is_open in
    let back : new.now ≡ old.now = both.0 ∙ h.settled.committed in
    record {
      settled = record { is_open = is_open; autocommit = undone.autocommit; committed = both.1 ∙ sym both.0 };
      few = h.few;
      schema = ap (λ (d : Database). d.schema) back ∙ h.schema;
      table = ap (λ (d : Database). d.trees 0) back ∙ h.table;
    }

-- a statement that is refused changes nothing or is undone
pub refused : (sql : List ℕ) (params : Row) (old new : State) (e : Error) → Executes sql params old new (Err e) → IsUnchanged old new ⊎ IsRolledBack old new
unfolding ExecutesIn IsNotRun
refused sql params old new e (inl (inl none)) = inl none.1
refused sql params old new e (inl (inr fails)) = inr fails.3
refused sql params old new e (inr ran) = elim (cases_Bool (shows_rows false ran.0)) [
  | inl shows ↦ inl (rw shows at ran.2).1
  | inr runs ↦ elim (rw runs at ran.2) [
    | inl same ↦ inl same.1
    | inr fails ↦ inr fails.3
  ]
]

pub refused_holds : (sql : List ℕ) (params : Row) (old new : State) (e : Error) (rows : List (List ℕ)) → Executes sql params old new (Err e) → IsTrue new.is_open → HoldsRows old rows
    → HoldsRows new rows
refused_holds sql params old new e rows h is_open holds = elim (refused sql params old new e h) [
  | inl same ↦ unchanged_holds old new rows same holds
  | inr undone ↦ undone_holds old new rows undone is_open holds
]

-- ---- an entry more

insert_does : (old : State) (next : Database) (tally : Tally) (text : List ℕ) (rows : List (List ℕ)) (row : List ℕ) (n : ℕ) → n ≡ 1 + length rows → HoldsRows old rows
    → Does old.step_limit (mode_of old) (Int (pos n) ∷ Blob row ∷ []) old.now text None (Insert 0 (Values insert_terms 3)) (Ok (tally, next))
    → (next.schema ≡ kept_schema) × (next.trees 0 ≡ entries_of (rows ++ row ∷ []))
insert_does old next tally text rows row n is h does =
    let params = Int (pos n) ∷ Blob row ∷ [] in
    let db = old.now.trees in
    let command = Insert 0 (Values insert_terms 3) in
    let done = went (subst (λ s. Does old.step_limit (mode_of old) params (record old.now { schema = s }) text None command (Ok (tally, next))) h.schema does) in
    let now = ap (λ (p : Tally × Database). p.1) (same_value (went (went done.2).2).2) in
    let given = went done.1 in
    let written = went (went given.2).2 in
    let counted = went written.2 in
    let trees : done.0.trees ≡ written.0 = ap (λ (it : Written). it.trees) (same_value counted.2) ∙ same_value counted.1 in
    let put = (one_step kept_schema _ db written.0 (edit_of db kept_table [] Chosen 0 given.0) refl written.1).rows in
    let edit : edited db (edit_of db kept_table [] Chosen 0 given.0) ≡ entries_of (rows ++ row ∷ []) =
    ap (λ all. edited db (edit_of db kept_table [] Chosen 0 all)) given.1.1 ∙ rw (h.table, cast-Int, cast-Null) (put_behind 1 rows row n is) in
    (ap (λ (d : Database). d.schema) now, ap (λ (d : Database). d.trees 0) now ∙ ap (λ (t : Trees). t 0) trees ∙ put ∙ edit)

pub inserts : (old new : State) (rows : List (List ℕ)) (row : List ℕ) (n count : ℕ) → n ≡ 1 + length rows → n ≤ max_rows → HoldsRows old rows
    → Executes insert_text (Int (pos n) ∷ Blob row ∷ []) old new (Ok count) → HoldsRows new (rows ++ row ∷ [])
inserts old new rows row n count is few h ran =
    let w = runs_as insert_text (Int (pos n) ∷ Blob row ∷ []) old new kept_schema h.schema (Insert 0 (Values insert_terms 3)) insert_is insert_plain count ran in
    let does = insert_does old new.now w.tally (statement_of insert_text (understood kept_schema insert_text)) rows row n is h w.changed in
    record {
      settled = record {
        is_open = w.shown.is_open;
        autocommit = w.shown.mode ∙ h.settled.autocommit;
        committed = rw h.settled.autocommit at w.shown.committed_is;
      };
      few = rw length-append (omega (arith, is, few));
      schema = does.0;
      table = does.1;
    }

-- ---- the entry of a row

pub fetches : (old new : State) (rows : List (List ℕ)) (row : List ℕ) (i n : ℕ) (out : Row) → HoldsRows old rows → slice_get rows i ≡ Some row → n ≡ 1 + i
    → QueriesRow fetch_text (Int (pos n) ∷ []) old new (Ok out) → out ≡ Blob row ∷ []
unfolding QueriesRow
fetches old new rows row i n out h at is ran =
    let params = Int (pos n) ∷ [] in
    let got = (first_as fetch_text params old new kept_schema h.schema _ fetch_is fetch_plain unlisted.0 out ran).1 in
    let a : IsAnswer fetch_query (overlay old.now.trees []) params (out ∷ got.0) = got.1 Null in
    let staged : a.staged ≡ (params ∷ entry_at n row ∷ []) ∷ [] = a.grouped ∙ rw h.table (one_picked 1 i rows row n at is) in
    let o : Output = ([], Blob row ∷ []) in
    let kept : a.kept ≡ o ∷ [] = a.distinct ∙ ap (map (output fetch_query)) staged in
    let ordered = one_permutation o a.ordered (subst (λ k. IsPermutation k a.ordered) kept a.same) in
    let shown : out ∷ got.0 ≡ (Blob row ∷ []) ∷ [] = a.shown ∙ ap (λ xs. page fetch_query params (map (λ (p : Output). p.1) xs)) ordered in
    cc

-- ---- the table

-- a new database has the table afterwards, without a row
pub creates : (old new : State) (count : ℕ) → HoldsNothing old → Executes create_text [] old new (Ok count) → HoldsRows new []
creates old new count h ran =
    let w = runs_as create_text [] old new empty_schema h.schema CreateTable create_is.0 create_plain count ran in
    let all = went w.changed in
    let first = went all.1 in
    let made = first.1 in
    let both : Ok made.table ≡ Ok kept_table = sym made.defined ∙ create_is.1 in
    let same : made.table ≡ kept_table = cc in
    let schema : first.0.schema ≡ kept_schema = made.is ∙ ap (λ s. created s made.table) h.schema ∙ ap (created empty_schema) same in
    let plain : lacks_sequence first.0.schema ≡ false = ap lacks_sequence schema in
    let now : new.now ≡ first.0 = ap (λ (p : Tally × Database). p.1) (same_value all.2) ∙ same_value (rw plain at first.2) in
    record {
      settled = record {
        is_open = w.shown.is_open;
        autocommit = w.shown.mode ∙ h.settled.autocommit;
        committed = rw h.settled.autocommit at w.shown.committed_is;
      };
      few = omega arith;
      schema = ap (λ (d : Database). d.schema) now ∙ schema;
      table = ap (λ (d : Database). d.trees 0) now ∙ subst (λ s. first.0.trees (next_tree s) ≡ []) h.schema made.empty;
    }

-- a table that is there is left as it is
pub creates_again : (old new : State) (rows : List (List ℕ)) (count : ℕ) → HoldsRows old rows → Executes create_text [] old new (Ok count) → HoldsRows new rows
creates_again old new rows count h ran =
    unchanged_holds old new rows (runs_as create_text [] old new kept_schema h.schema Nothing create_again_is create_again_plain count ran).0 h

-- ---- queries

never_ok : ¬ (false ≡ true)
never_ok same = cc

-- a query changes nothing, or is undone
pub queried : (sql : List ℕ) (params : Row) (old new : State) (r : Result Row Error) → old.now.schema ≡ kept_schema → IsPlain (understood kept_schema sql) → QueriesRow sql params old new r
    → (IsOk r → IsUnchanged old new) × (IsUnchanged old new ⊎ IsRolledBack old new)
unfolding QueriesRow Shown FailsToQuery IsNotRun
queried sql params old new (Ok row) has plain (inl h) = (λ ok. h.1, inl h.1)
queried sql params old new (Ok row) has plain (inr h) =
    let shown = h.1 in
    let bare = subst IsPlain (sym (sym shown.1.is ∙ ap (λ s. understood s sql) has)) plain in
    let it = subst (λ r. ShowsRows old new sql shown.0 (timed params shown.0.formats shown.1.now) h.0 r) bare.0 shown.2 in
    (λ ok. it.3, inl it.3)
queried sql params old new (Err e) has plain (inl (inl (inl none))) = (λ ok. absurd (never_ok ok), inl none.1)
queried sql params old new (Err e) has plain (inl (inl (inr fails))) = (λ ok. absurd (never_ok ok), inr fails.3)
queried sql params old new (Err e) has plain (inl (inr ran)) =
    let bare = subst IsPlain (sym (sym ran.1.is ∙ ap (λ s. understood s sql) has)) plain in
    let it = subst (λ r. FailsToShow old new sql ran.0 (timed params ran.0.formats ran.1.now) e r) bare.0 ran.2 in
    (λ ok. absurd (never_ok ok), inl it.3)
queried sql params old new (Err e) has plain (inr h) =
    let shown = h.1 in
    let bare = subst IsPlain (sym (sym shown.1.is ∙ ap (λ s. understood s sql) has)) plain in
    let it = subst (λ r. ShowsRows old new sql shown.0 (timed params shown.0.formats shown.1.now) [] r) bare.0 shown.2 in
    (λ ok. absurd (never_ok ok), inl it.3)

-- ---- a stop

may_insert : (old : State) (rows : List (List ℕ)) (row : List ℕ) (n : ℕ) (text : List ℕ) (db : Trees) → n ≡ 1 + length rows → HoldsRows old rows
    → MayCommit old None (Insert 0 (Values insert_terms 3)) text (Int (pos n) ∷ Blob row ∷ []) db → db 0 ≡ entries_of (rows ++ row ∷ [])
may_insert old rows row n text db is h (inl (inl other, same)) = absurd cc
may_insert old rows row n text db is h (inl (inr other, same)) = absurd (let no = other.2 in cc)
may_insert old rows row n text db is h (inr may) = ap (λ (t : Trees). t 0) may.5 ∙ (insert_does old may.2 may.1 text rows row n is h may.3).1

-- what an INSERT commits are the rows with one more
pub commits : (old : State) (rows : List (List ℕ)) (row : List ℕ) (n : ℕ) (db : Trees) → n ≡ 1 + length rows → HoldsRows old rows
    → CommitsBy insert_text (Int (pos n) ∷ Blob row ∷ []) old db → db 0 ≡ entries_of (rows ++ row ∷ [])
unfolding CommitsBy
commits old rows row n db is h ran =
    let params = Int (pos n) ∷ Blob row ∷ [] in
    let c = ran.0 in
    let known : Ok c ≡ understood kept_schema insert_text = sym ran.1.is ∙ ap (λ s. understood s insert_text) h.schema in
    let bare = subst IsPlain (sym known) insert_plain in
    let may = subst (λ k. MayCommit old c.returning k (text_of insert_text c) (timed params c.formats ran.1.now) db) (ap command_of known ∙ insert_is) ran.2 in
    may_insert old rows row n (text_of insert_text c) db is h (rw (bare.0, bare.1) at may)

-- ---- the statements as the keeper makes them

pub makes : (old new : State) (rows : List (List ℕ)) (r : Result ℕ Error) → IsOpenedAs old rows → Executes create_text [] old new r → OnOk r (HoldsRows new rows)
makes old new rows (Err e) there ran = tt
makes old new rows (Ok count) (inl there) ran = creates_again old new rows count there ran
makes old new rows (Ok count) (inr (nothing, none)) ran = subst (HoldsRows new) (sym none) (creates old new count nothing ran)

pub inserted : (old new : State) (rows : List (List ℕ)) (row : List ℕ) (n : ℤ) (r : Result ℕ Error) → n ≡ pos (1 + length rows) → 1 + length rows ≤ max_rows → HoldsRows old rows
    → Executes insert_text (Int n ∷ Blob row ∷ []) old new r → OnOk r (HoldsRows new (rows ++ row ∷ []))
inserted old new rows row n (Err e) is few h ran = tt
inserted old new rows row n (Ok count) is few h ran =
    inserts old new rows row (1 + length rows) count refl few h (subst (λ k. Executes insert_text (Int k ∷ Blob row ∷ []) old new (Ok count)) is ran)

pub not_inserted : (old new : State) (rows : List (List ℕ)) (params : Row) (r : Result ℕ Error) → HoldsRows old rows → Executes insert_text params old new r → OnErr r (LeavesRows new rows)
not_inserted old new rows params (Ok count) h ran = tt
not_inserted old new rows params (Err e) h ran = λ still. refused_holds insert_text params old new e rows ran still h

pub insert_stops : (old new : State) (rows : List (List ℕ)) (row : List ℕ) (n : ℤ) → n ≡ pos (1 + length rows) → HoldsRows old rows
    → Survives old new (CommitsBy insert_text (Int n ∷ Blob row ∷ []) old) → Survives old new (HasRows (rows ++ row ∷ []))
insert_stops old new rows row n is h survives =
    survives_weaker old new _ _
    (λ clean db done. commits old rows row (1 + length rows) db refl h (subst (λ k. CommitsBy insert_text (Int k ∷ Blob row ∷ []) old db) is done)) survives

-- ---- queries as the keeper makes them

module _ (sql : List ℕ) (params : Row) (old new : State) (rows : List (List ℕ)) (plain : IsPlain (understood kept_schema sql)) (h : HoldsRows old rows) where
  pub shown_holds : (row : Row) → QueriesRow sql params old new (Ok row) → HoldsRows new rows
  shown_holds row ran = unchanged_holds old new rows ((queried sql params old new (Ok row) h.schema plain ran).0 refl) h

  pub queried_holds : (r : Result Row Error) → QueriesRow sql params old new r → IsTrue new.is_open → HoldsRows new rows
  queried_holds r ran is_open = elim (queried sql params old new r h.schema plain ran).1 [
    | inl same ↦ unchanged_holds old new rows same h
    | inr undone ↦ undone_holds old new rows undone is_open h
  ]

  pub query_stops : Survives old new (CommitsShowing sql params old) → Survives old new (λ _. ⊥)
  query_stops survives =
      survives_weaker old new _ _ (λ clean db done. never_commits sql params old db (subst (λ s. IsPlain (understood s sql)) (sym h.schema) plain) done) survives

-- the row that a query shows has these bytes
pub asked : (old new : State) (rows : List (List ℕ)) (row : List ℕ) (i : ℕ) (n : ℤ) (r : Result Row Error) → HoldsRows old rows → n ≡ pos (1 + i) → slice_get rows i ≡ Some row
    → QueriesRow fetch_text (Int n ∷ []) old new r → IfOk r (λ out. column out 0 ≡ Blob row)
asked old new rows row i n (Err e) h is at ran = tt
asked old new rows row i n (Ok out) h is at ran =
    ap (λ o. column o 0) (fetches old new rows row i (1 + i) out h at refl (subst (λ k. QueriesRow fetch_text (Int k ∷ []) old new (Ok out)) is ran))

pub shown_or_refused : (sql : List ℕ) (params : Row) (old new : State) (rows : List (List ℕ)) (r : Result Row Error) → IsPlain (understood kept_schema sql) → HoldsRows old rows
    → QueriesRow sql params old new r → OnOk r (HoldsRows new rows)
shown_or_refused sql params old new rows (Err e) plain h ran = tt
shown_or_refused sql params old new rows (Ok row) plain h ran = shown_holds sql params old new rows plain h row ran
