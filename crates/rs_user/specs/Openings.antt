-- What rows are opened as.
use Rattle.std.specs.Prelude.{◌≡◌, ℕ, ◌+◌, Bool, true, false, ◌&&◌, nat_lt, List, [], ◌∷◌, map, Option, Some, None, IfSome, Result, Ok, Err, if◌then◌else◌}
use Rattle.rs_path.specs.declared.log_entry.LogEntry.{LogEntry}
use Rattle.rs_row.specs.declared.open_fault.OpenFault.{OpenFault}
use Rattle.rs_row.specs.declared.open_fault.OpenFault.TheVariants.{BadRow, Unlawful, KeeperFailed, NoMemory}
use Rattle.rs_row.specs.declared.refusal.Refusal.{Refusal}
use Rattle.rs_row.specs.declared.refusal.Refusal.TheVariants.{Bad as BadBytes, Misplaced}
use Rattle.rs_row.specs.declared.refusal.TakeFault.{TakeFault}
use Rattle.rs_row.specs.declared.refusal.TakeFault.TheVariants.{Refused, NoMemory as NoMemoryToTake}
use Rattle.rs_row.specs.declared.row_fault.RowFault.{RowFault}
use Rattle.rs_row.specs.declared.row_fault.RowFault.TheVariants.{Bad, NoMemory as NoMemoryToRead}
use Rattle.rs_record.specs.declared.records.Record.{Record}
use Rattle.rs_record.specs.Rows.{spelling}
use Rattle.rs_record.specs.RowReadings.{record_reading}
use Rattle.rs_rules.specs.Limits.{max_len}
use Rattle.rs_rules.specs.Histories.{History, empty_base, start, len, with_entry}
use Rattle.rs_rules.specs.Contents.{Contents}
use Rattle.rs_rules.specs.Snapshots.{snapshot}
use Rattle.rs_rules.specs.Lawful.{may_follow}
use Rattle.rs_user.specs.declared.state.UserState.{UserState}
use Rattle.rs_user.specs.Standing.{StandsFor}

-- some request adds the record to the history: there is room for it, and it stands rightly
abbrev pub may_be_next : History → Record → Bool
may_be_next h what = nat_lt (len h) max_len && may_follow (snapshot h) what

-- the history and the record that a row spells; whoever made it isn't known
abbrev pub with_reading : ℕ → History → Result Record RowFault → Result History OpenFault
with_reading index h (Ok what) =
    if may_be_next h what then Ok (with_entry h (record { who = 0; what = what })) else Err (Unlawful index)
with_reading index h (Err (Bad place)) = Err (BadRow index place)
with_reading index h (Err NoMemoryToRead) = Err NoMemory

-- what follows the history, if there is no fault
abbrev pub if_opened : Result History OpenFault → (History → Result History OpenFault) → Result History OpenFault
if_opened (Ok h) rest = rest h
if_opened (Err fault) rest = Err fault

-- the history and the records of more rows, of which the first has the index; the first row that is no record, or whose
-- record doesn't stand rightly after those before it, is refused
abbrev pub opening_from : ℕ → History → List (List ℕ) → Result History OpenFault
opening_from index h [] = Ok h
opening_from index h (row ∷ rows) = if_opened (with_reading index h (record_reading row)) (λ now. opening_from (index + 1) now rows)

-- the history that rows spell
abbrev pub opening : List (List ℕ) → Result History OpenFault
opening rows = opening_from 0 (start empty_base) rows

-- what a row is refused for behind the rows of a history, by its reading
abbrev pub refusal_behind : History → Result Record RowFault → Option Refusal
refusal_behind h (Ok what) = if may_be_next h what then None else Some Misplaced
refusal_behind h (Err (Bad place)) = Some (BadBytes place)
refusal_behind h (Err NoMemoryToRead) = None

-- what a row is refused for behind rows that were opened so; behind rows of which one is wrong no other is refused
abbrev pub refusal_after : Result History OpenFault → List ℕ → Option Refusal
refusal_after (Ok h) row = refusal_behind h (record_reading row)
refusal_after (Err fault) row = None

-- what a row is refused for behind others
abbrev pub row_refusal : List (List ℕ) → List ℕ → Option Refusal
row_refusal rows row = refusal_after (opening rows) row

-- ---- the rows of a history

-- the rows of a history since its cut
abbrev pub rows_of : History → List (List ℕ)
rows_of h = map (λ (e : LogEntry Record). spelling e.what) h.entries

-- the history, of which isn't known who made its entries
abbrev pub by_nobody : History → History
by_nobody h = record { base = h.base; entries = map (λ (e : LogEntry Record). record { who = 0; what = e.what }) h.entries }

-- the rows are those of the history, and are opened as it
abbrev pub AreRows : List (List ℕ) → History → Type 0
AreRows rows h = (rows ≡ rows_of h) × (opening rows ≡ Ok (by_nobody h))

-- the told rows are those of the history
abbrev pub AreToldRows : Option (List (List ℕ)) → History → Type 0
AreToldRows told h = IfSome told (λ rows. AreRows rows h)

module _ {T R : Type 0} (tree_stands : T → Contents → Type 0) where
  -- the state stands for the history that the rows spell
  pub record Opened (state : UserState T R) (kept : List (List ℕ)) : Type 0 where
    pub history : History
    pub spelled : opening kept ≡ Ok history
    pub rows : AreRows kept history
    pub stands : StandsFor tree_stands state history

  -- the state stands for the history that the rows spell, of which nothing was given up, nor is it known who made its entries
  pub record IsMadeOf (state : UserState T R) (kept : List (List ℕ)) : Type 0 where
    pub history : History
    pub spelled : opening kept ≡ Ok history
    pub rows : kept ≡ rows_of history
    pub whole : history.base ≡ empty_base
    pub nobody : history ≡ by_nobody history
    pub stands : StandsFor tree_stands state history

  -- the state stands for a history of which nothing was given up, nor is it known who made its entries, and whose rows these
  -- are, where they are told
  pub record StandsAnew (state : UserState T R) (told : Option (List (List ℕ))) : Type 0 where
    pub history : History
    pub stands : StandsFor tree_stands state history
    pub whole : history.base ≡ empty_base
    pub nobody : history ≡ by_nobody history
    pub rows : AreToldRows told history

  -- the rows were opened, or refused at the first row that is wrong, or they could not be read, or memory ran out
  abbrev pub Opens : Result (UserState T R) OpenFault → List (List ℕ) → Type 0
  Opens (Ok state) rows = Opened state rows
  Opens (Err (BadRow index place)) rows = opening rows ≡ Err (BadRow index place)
  Opens (Err (Unlawful index)) rows = opening rows ≡ Err (Unlawful index)
  Opens (Err KeeperFailed) rows = Unit {0}
  Opens (Err NoMemory) rows = Unit {0}

  -- what one record has done to the state, which stood for the history
  abbrev pub TakesRecord : UserState T R → Result (Unit {0}) TakeFault → History → Record → Type 0
  TakesRecord state (Ok done) h what =
      (may_be_next h what ≡ true) × StandsFor tree_stands state (with_entry h (record { who = 0; what = what }))
  TakesRecord state (Err (Refused why)) h what = (why ≡ Misplaced) × (may_be_next h what ≡ false)
  TakesRecord state (Err NoMemoryToTake) h what = Unit {0}
