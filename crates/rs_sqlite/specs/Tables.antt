-- The table of rows, as `sqlite` shows it.
use Rattle.std.specs.Prelude.{◌≡◌, ◌⊎◌, ℕ, ◌+◌, ◌≤◌, length, true, false, pos, List, [], ◌∷◌, map, Some, codes, IsTrue}
use Rattle.sqlite.specs.declared.types.Value.{Value}
use Rattle.sqlite.specs.declared.types.Value.TheVariants.{Null, Int, Blob}
use Rattle.sqlite.specs.Order.{Row, column}
use Rattle.sqlite.specs.Collation.TheVariants.{Binary}
use Rattle.sqlite.specs.Kind.TheVariants.{Integer, Any}
use Rattle.sqlite.specs.Table.{Table}
use Rattle.sqlite.specs.Schema.{Schema}
use Rattle.sqlite.specs.Tree.{Trees}
use Rattle.sqlite.specs.State.{State}
use Rattle.rs_sqlite.specs.Limits.{max_rows}

-- `kept(n INTEGER PRIMARY KEY, bytes BLOB NOT NULL)`
abbrev pub kept_table : Table
kept_table = record {
  name = codes "kept";
  tree = 0;
  columns = (record { name = codes "n"; kind = Integer; is_strict = false; not_null = false; default = Null; collation = Binary })
      ∷ (record { name = codes "bytes"; kind = Any; is_strict = false; not_null = true; default = Null; collation = Binary }) ∷ [];
  key = Some 0;
  primary = 0 ∷ [];
  uniques = [];
  orders = [];
  checks = [];
  references = [];
  computed = [];
  stamps = record { places = []; terms = []; formats = [] };
  is_counted = false;
}

-- a database that has this table and nothing else
abbrev pub kept_schema : Schema
kept_schema = record { tables = kept_table ∷ []; indexes = []; views = [] }

-- a new database
abbrev pub empty_schema : Schema
empty_schema = record { tables = []; indexes = []; views = [] }

-- the entry of the row at the position n, from 1: its number, which the key's column doesn't repeat, and its bytes
abbrev pub entry_at : ℕ → List ℕ → Row
entry_at n bytes = Int (pos n) ∷ Null ∷ Blob bytes ∷ []

-- the entries of rows, numbered from n
abbrev pub entries_from : ℕ → List (List ℕ) → List Row
entries_from n [] = []
entries_from n (row ∷ rows) = entry_at n row ∷ entries_from (n + 1) rows

-- the entries of rows, numbered from 1
abbrev pub entries_of : List (List ℕ) → List Row
entries_of = entries_from 1

-- the connection is open and within no transaction, and what it shows is committed
pub record IsSettled (s : State) : Type 0 where
  pub is_open : IsTrue s.is_open
  pub autocommit : s.in_transaction ≡ false
  pub committed : s.committed ≡ s.now

-- a new database
pub record HoldsNothing (s : State) : Type 0 where
  pub settled : IsSettled s
  pub schema : s.now.schema ≡ empty_schema

-- the database has the table of rows and nothing else, and these rows are in it
pub record HoldsRows (s : State) (rows : List (List ℕ)) : Type 0 where
  pub settled : IsSettled s
  pub few : length rows ≤ max_rows
  pub schema : s.now.schema ≡ kept_schema
  pub table : s.now.trees 0 ≡ entries_of rows

-- a database that is opened as these rows: it has them, or it is new and they are none
abbrev pub IsOpenedAs : State → List (List ℕ) → Type 0
IsOpenedAs s rows = HoldsRows s rows ⊎ (HoldsNothing s × (rows ≡ []))

-- a statement that failed left the rows, unless it closed the connection
abbrev pub LeavesRows : State → List (List ℕ) → Type 0
LeavesRows s rows = IsTrue s.is_open → HoldsRows s rows

-- what a stop leaves has these rows in the table
abbrev pub HasRows : List (List ℕ) → Trees → Type 0
HasRows rows db = db 0 ≡ entries_of rows

-- the bytes of a value, where it has some
abbrev pub blob_of : Value → List ℕ
blob_of (Blob bytes) = bytes
blob_of _ = []

-- the bytes of an entry
abbrev pub bytes_in : Row → List ℕ
bytes_in entry = blob_of (column entry 2)

-- the rows that the table of rows has
abbrev pub rows_in : Trees → List (List ℕ)
rows_in db = map bytes_in (db 0)
