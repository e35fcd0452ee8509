-- Rows, opened one after another: the first that is refused is the one at which their opening ends.
use Rattle.std.proofs.Common.{◌≡◌, ℕ, ◌+◌, true, false, List, [], ◌∷◌, ◌++◌, length, Option, Some, None, IfSome, IfOk, Result, Ok, Err, arith, refl, sym, ap, ◌∙◌, ⊎_elim, length-append}
use Rattle.std.proofs.lemmas.Bool.{cases_Bool, cond-true, cond-false}
use Rattle.std.proofs.lemmas.List.{length-map}
use Rattle.std.proofs.lemmas.Option.{none-some}
use Rattle.rs_path.specs.declared.log_entry.LogEntry.{LogEntry}
use Rattle.rs_row.specs.declared.open_fault.OpenFault.{OpenFault}
use Rattle.rs_row.specs.declared.open_fault.OpenFault.TheVariants.{BadRow, Unlawful, KeeperFailed, NoMemory}
use Rattle.rs_row.specs.declared.refusal.Refusal.TheVariants.{Misplaced}
use Rattle.rs_row.specs.declared.refusal.TakeFault.{TakeFault}
use Rattle.rs_row.specs.declared.refusal.TakeFault.TheVariants.{Refused, NoMemory as NoMemoryToTake}
use Rattle.rs_row.specs.declared.row_fault.RowFault.{RowFault}
use Rattle.rs_row.specs.declared.row_fault.RowFault.TheVariants.{Bad, NoMemory as NoMemoryToRead}
use Rattle.rs_row.specs.RowOpenings.{refused_or, refused_from, first_refused, TakesNext, OpensKeptRows}
use Rattle.rs_record.specs.declared.records.Record.{Record}
use Rattle.rs_record.specs.Rows.{spelling}
use Rattle.rs_record.specs.RowReadings.{record_reading}
use Rattle.rs_rules.specs.Histories.{History, start, empty_base, with_entry}
use Rattle.rs_rules.specs.Contents.{Contents}
use Rattle.rs_user.specs.declared.state.UserState.{UserState}
use Rattle.rs_user.specs.Standing.{StandsFor}
use Rattle.rs_user.specs.Openings.{may_be_next, with_reading, if_opened, opening_from, opening, refusal_behind, refusal_after, row_refusal, rows_of, IsMadeOf, StandsAnew, Opens, TakesRecord}
use Rattle.rs_user.proofs.SpellingLemmas.{nobody_more, opening_more, rows_more}

-- the history and the record that was read
abbrev pub and_read : History → Record → History
and_read h what = with_entry h (record { who = 0; what = what })

-- ---- one row, and others behind it

reads_on : (index : ℕ) (h : History) (row : List ℕ) (what : Record) (rest : List (List ℕ)) → record_reading row ≡ Ok what → may_be_next h what ≡ true
    → opening_from index h (row ∷ rest) ≡ opening_from (index + 1) (and_read h what) rest
reads_on index h row what rest reads may =
    ap (λ reading. if_opened (with_reading index h reading) (λ now. opening_from (index + 1) now rest)) reads
    ∙ ap (λ now. if_opened now (λ after. opening_from (index + 1) after rest)) (cond-true (may_be_next h what) (Ok (and_read h what)) (Err (Unlawful index)) may)

is_bad : (index place : ℕ) (h : History) (row : List ℕ) (rest : List (List ℕ)) → record_reading row ≡ Err (Bad place)
    → opening_from index h (row ∷ rest) ≡ Err (BadRow index place)
is_bad index place h row rest reads =
    ap (λ reading. if_opened (with_reading index h reading) (λ now. opening_from (index + 1) now rest)) reads

is_unlawful : (index : ℕ) (h : History) (row : List ℕ) (what : Record) (rest : List (List ℕ)) → record_reading row ≡ Ok what → may_be_next h what ≡ false
    → opening_from index h (row ∷ rest) ≡ Err (Unlawful index)
is_unlawful index h row what rest reads may =
    ap (λ reading. if_opened (with_reading index h reading) (λ now. opening_from (index + 1) now rest)) reads
    ∙ ap (λ now. if_opened now (λ after. opening_from (index + 1) after rest)) (cond-false (may_be_next h what) (Ok (and_read h what)) (Err (Unlawful index)) may)

-- ---- rows, and one behind them

opened_then : (first : Result History OpenFault) (f g last : History → Result History OpenFault) → ((now : History) → g now ≡ if_opened (f now) last)
    → if_opened first g ≡ if_opened (if_opened first f) last
opened_then (Ok now) f g last same = same now
opened_then (Err fault) f g last same = refl

opened_itself : (first : Result History OpenFault) → if_opened first (λ now. Ok now) ≡ first
opened_itself (Ok now) = refl
opened_itself (Err fault) = refl

opening_behind : (index : ℕ) (h : History) (rows : List (List ℕ)) (row : List ℕ)
    → opening_from index h (rows ++ row ∷ []) ≡ if_opened (opening_from index h rows) (λ now. with_reading (index + length rows) now (record_reading row))
opening_behind index h [] row =
    let here : index ≡ index + 0 = omega arith in
    opened_itself (with_reading index h (record_reading row)) ∙ ap (λ n. with_reading n h (record_reading row)) here
opening_behind index h (first ∷ rows) row =
    let count : index + 1 + length rows ≡ index + length (first ∷ rows) = omega arith in
    opened_then (with_reading index h (record_reading first)) (λ now. opening_from (index + 1) now rows) (λ now. opening_from (index + 1) now (rows ++ row ∷ []))
    (λ now. with_reading (index + length (first ∷ rows)) now (record_reading row))
    (λ now. opening_behind (index + 1) now rows row
    ∙ ap (λ n. if_opened (opening_from (index + 1) now rows) (λ after. with_reading n after (record_reading row))) count)

-- rows behind a wrong one are as wrong
wrong_more : (rows : List (List ℕ)) (row : List ℕ) (fault : OpenFault) → opening rows ≡ Err fault → opening (rows ++ row ∷ []) ≡ Err fault
wrong_more rows row fault wrong =
    opening_behind 0 (start empty_base) rows row
    ∙ ap (λ o. if_opened o (λ now. with_reading (0 + length rows) now (record_reading row))) wrong

unread_more : (rows : List (List ℕ)) (row : List ℕ) (h : History) → opening rows ≡ Ok h → record_reading row ≡ Err NoMemoryToRead → opening (rows ++ row ∷ []) ≡ Err NoMemory
unread_more rows row h spelled reads =
    opening_behind 0 (start empty_base) rows row
    ∙ ap (λ o. if_opened o (λ now. with_reading (0 + length rows) now (record_reading row))) spelled
    ∙ ap (with_reading (0 + length rows) h) reads

-- ---- the first row that is refused

none_behind : (taken rows : List (List ℕ)) (fault : OpenFault) → opening taken ≡ Err fault → refused_from row_refusal taken rows ≡ None
none_behind taken [] fault wrong = refl
none_behind taken (row ∷ rows) fault wrong =
    ap (λ o. refused_or (refusal_after o row) (length taken) (refused_from row_refusal (taken ++ row ∷ []) rows)) wrong
    ∙ none_behind (taken ++ row ∷ []) rows fault (wrong_more taken row fault wrong)

-- what is known of the rows behind the next one
abbrev EndsBehind : List (List ℕ) → List (List ℕ) → OpenFault → Type 0
EndsBehind taken rows fault = (h : History) → opening taken ≡ Ok h → refused_from row_refusal taken rows ≡ Some fault
    → opening_from (length taken) h rows ≡ Err fault

next_read : (taken rows : List (List ℕ)) (row : List ℕ) (h : History) (fault : OpenFault) (what : Record) → opening taken ≡ Ok h → record_reading row ≡ Ok what
    → EndsBehind (taken ++ row ∷ []) rows fault
    → refused_or (refusal_behind h (Ok what)) (length taken) (refused_from row_refusal (taken ++ row ∷ []) rows) ≡ Some fault
    → opening_from (length taken) h (row ∷ rows) ≡ Err fault
next_read taken rows row h fault what spelled reads ends first =
    ⊎_elim
    (λ may.
    let later : refused_from row_refusal (taken ++ row ∷ []) rows ≡ Some fault =
    sym (ap (λ o. refused_or o (length taken) (refused_from row_refusal (taken ++ row ∷ []) rows)) (cond-true (may_be_next h what) None (Some Misplaced) may)) ∙ first in
    let more = length-append taken (row ∷ []) in
    let count : length taken + 1 ≡ length (taken ++ row ∷ []) = omega (arith, more) in
    reads_on (length taken) h row what rows reads may
    ∙ ap (λ n. opening_from n (and_read h what) rows) count
    ∙ ends (and_read h what) (opening_more 0 (start empty_base) h taken row what spelled reads may) later)
    (λ may.
    let here : Some (Unlawful (length taken)) ≡ Some fault =
    sym (ap (λ o. refused_or o (length taken) (refused_from row_refusal (taken ++ row ∷ []) rows)) (cond-false (may_be_next h what) None (Some Misplaced) may)) ∙ first in
    let same : Unlawful (length taken) ≡ fault = cc in
    is_unlawful (length taken) h row what rows reads may ∙ ap (λ f. Err f) same)
    (cases_Bool (may_be_next h what))

next_ends : (taken rows : List (List ℕ)) (row : List ℕ) (h : History) (fault : OpenFault) (reading : Result Record RowFault) → opening taken ≡ Ok h → record_reading row ≡ reading
    → EndsBehind (taken ++ row ∷ []) rows fault
    → refused_or (refusal_behind h reading) (length taken) (refused_from row_refusal (taken ++ row ∷ []) rows) ≡ Some fault
    → opening_from (length taken) h (row ∷ rows) ≡ Err fault
next_ends taken rows row h fault (Ok what) spelled reads ends first = next_read taken rows row h fault what spelled reads ends first
next_ends taken rows row h fault (Err (Bad place)) spelled reads ends first =
    let here : Some (BadRow (length taken) place) ≡ Some fault = first in
    let same : BadRow (length taken) place ≡ fault = cc in
    is_bad (length taken) place h row rows reads ∙ ap (λ f. Err f) same
next_ends taken rows row h fault (Err NoMemoryToRead) spelled reads ends first =
    absurd (none-some fault (sym (none_behind (taken ++ row ∷ []) rows NoMemory (unread_more taken row h spelled reads)) ∙ first))

-- what is refused first is where the opening ends
ends_at : (taken rows : List (List ℕ)) (fault : OpenFault) → EndsBehind taken rows fault
ends_at taken [] fault h spelled first = absurd (none-some fault first)
ends_at taken (row ∷ rows) fault h spelled first =
    next_ends taken rows row h fault (record_reading row) spelled refl (ends_at (taken ++ row ∷ []) rows fault)
    (sym (ap (λ o. refused_or (refusal_after o row) (length taken) (refused_from row_refusal (taken ++ row ∷ []) rows)) spelled) ∙ first)

ends_first : (rows : List (List ℕ)) (fault : OpenFault) → first_refused row_refusal rows ≡ Some fault → opening rows ≡ Err fault
ends_first rows fault first = ends_at [] rows fault (start empty_base) refl first

module _ {T R : Type 0} (tree_stands : T → Contents → Type 0) where
  abbrev Makes : UserState T R → List (List ℕ) → Type 0
  Makes state rows = IsMadeOf tree_stands state rows

  -- ---- one row

  pub made_of_none : (state : UserState T R) → StandsFor tree_stands state (start empty_base) → IsMadeOf tree_stands state []
  made_of_none state stands = record {
    history = start empty_base;
    spelled = refl;
    rows = refl;
    whole = refl;
    nobody = refl;
    stands = stands;
  }

  made_of_more : (state new : UserState T R) (rows : List (List ℕ)) (row : List ℕ) (what : Record) (m : IsMadeOf tree_stands state rows)
      → record_reading row ≡ Ok what → spelling what ≡ row → may_be_next m.history what ≡ true → StandsFor tree_stands new (and_read m.history what)
      → IsMadeOf tree_stands new (rows ++ row ∷ [])
  made_of_more state new rows row what m reads spelled may stands = record {
    history = and_read m.history what;
    spelled = opening_more 0 (start empty_base) m.history rows row what m.spelled reads may;
    rows = ap (λ kept. kept ++ row ∷ []) m.rows ∙ ap (λ last. rows_of m.history ++ last ∷ []) (sym spelled) ∙ sym (rows_more m.history 0 what);
    whole = m.whole;
    nobody = ap (λ (h : History). and_read h what) m.nobody ∙ nobody_more m.history 0 what;
    stands = stands;
  }

  -- what a row is refused for, behind the rows that made the state
  refusal_here : (state : UserState T R) (rows : List (List ℕ)) (row : List ℕ) (m : IsMadeOf tree_stands state rows) → row_refusal rows row ≡ refusal_behind m.history (record_reading row)
  refusal_here state rows row m = ap (λ o. refusal_after o row) m.spelled

  -- a row that was read, and whose record was taken or refused
  pub takes_read : (state new : UserState T R) (result : Result (Unit {0}) TakeFault) (rows : List (List ℕ)) (row : List ℕ) (what : Record)
      → record_reading row ≡ Ok what → spelling what ≡ row → ((h : History) → StandsFor tree_stands state h → TakesRecord tree_stands new result h what)
      → IsMadeOf tree_stands state rows → TakesNext row_refusal Makes new result rows row
  takes_read state new (Ok done) rows row what reads spelled takes m =
      let taken = takes m.history m.stands in (
        refusal_here state rows row m ∙ ap (refusal_behind m.history) reads ∙ cond-true (may_be_next m.history what) None (Some Misplaced) taken.0,
        made_of_more state new rows row what m reads spelled taken.0 taken.1,
      )
  takes_read state new (Err (Refused why)) rows row what reads spelled takes m =
      let taken = takes m.history m.stands in
      refusal_here state rows row m ∙ ap (refusal_behind m.history) reads ∙ cond-false (may_be_next m.history what) None (Some Misplaced) taken.1
      ∙ ap (λ w. Some w) (sym taken.0)
  takes_read state new (Err NoMemoryToTake) rows row what reads spelled takes m = tt

  -- ---- all rows

  opens_kept : (result : Result (UserState T R) OpenFault) (kept : List (List ℕ)) → OpensKeptRows row_refusal Makes result kept → Opens tree_stands result kept
  opens_kept (Ok state) kept opened =
      let m = opened.1 in
      record { history = m.history; spelled = m.spelled; rows = (m.rows, m.spelled ∙ ap (λ h. Ok h) m.nobody); stands = m.stands }
  opens_kept (Err (BadRow index place)) kept opened = ends_first kept (BadRow index place) opened
  opens_kept (Err (Unlawful index)) kept opened = ends_first kept (Unlawful index) opened
  opens_kept (Err KeeperFailed) kept opened = tt
  opens_kept (Err NoMemory) kept opened = tt

  pub opens_told : (result : Result (UserState T R) OpenFault) (told : Option (List (List ℕ))) → IfSome told (OpensKeptRows row_refusal Makes result)
      → IfSome told (Opens tree_stands result)
  opens_told result None opened = opened
  opens_told result (Some kept) opened = opens_kept result kept opened

  -- rows that made the state, so many
  abbrev pub IsMadeOfSome : ℕ → UserState T R → Type 0
  IsMadeOfSome count state = (rows : List (List ℕ)) × IsMadeOf tree_stands state rows × (length rows ≡ count)

  stands_anew : (state : UserState T R) (count : ℕ) (told : Option (List (List ℕ))) → IsMadeOfSome count state
      → IfSome told (OpensKeptRows row_refusal Makes (Ok state)) → StandsAnew tree_stands state told
  stands_anew state count None made opened =
      record { history = made.1.history; stands = made.1.stands; whole = made.1.whole; nobody = made.1.nobody; rows = tt }
  stands_anew state count (Some kept) made opened =
      let m = opened.1 in
      record { history = m.history; stands = m.stands; whole = m.whole; nobody = m.nobody; rows = (m.rows, m.spelled ∙ ap (λ h. Ok h) m.nobody) }

  pub begun : (result : Result (UserState T R) OpenFault) (count : ℕ) (told : Option (List (List ℕ))) → IfOk result (IsMadeOfSome count)
      → IfSome told (OpensKeptRows row_refusal Makes result) → IfOk result (λ state. StandsAnew tree_stands state told)
  begun (Ok state) count told made opened = stands_anew state count told made opened
  begun (Err fault) count told made opened = tt

  pub stands_made : (result : Result (UserState T R) OpenFault) (count : ℕ) → IfOk result (IsMadeOfSome count)
      → IfOk result (λ state. (h : History) × StandsFor tree_stands state h)
  stands_made (Ok state) count made = (made.1.history, made.1.stands)
  stands_made (Err fault) count made = tt

  pub counted : (result : Result (UserState T R) OpenFault) (count : ℕ) → IfOk result (IsMadeOfSome count) → IfOk result (λ state. state.rows ≡ count)
  counted (Ok state) count made =
      made.1.stands.rows
      ∙ sym (length-map made.1.history.entries (λ (e : LogEntry Record). spelling e.what))
      ∙ ap length (sym made.1.rows)
      ∙ made.2
  counted (Err fault) count made = tt
