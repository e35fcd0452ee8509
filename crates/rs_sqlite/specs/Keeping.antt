-- What is seen of a keeper over a database.
use Rattle.std.specs.Prelude.{◌≡◌, ℕ, List, length, IsTrue, refl}
use Rattle.std.specs.Coded.{Coded, code_by, coded×, coded_ℕ}
use Rattle.rs_face.specs.Causes.{one_more}
use Rattle.rs_face.specs.declared.keeper.KeepFault.{KeepFault}
use Rattle.rs_face.specs.declared.keeper.KeepFault.TheVariants.{Failed, NoMemory}
use Rattle.sqlite.specs.Store.{Ghosts}
use Rattle.sqlite.specs.Held.{Held, held_code, state}
use Rattle.sqlite.specs.declared.error.Error.{Error}
use Rattle.sqlite.specs.declared.error.Error.TheVariants.{SqliteFailure}
use Rattle.sqlite.specs.declared.error.ErrorCode.{ErrorCode}
use Rattle.sqlite.specs.declared.error.ErrorCode.TheVariants.{OutOfMemory}
use Rattle.rs_sqlite.specs.Tables.{HoldsRows}

-- its connection, how many rows it has, and how many statements were refused
pub record Keeping (S : Type 0) : Type 0 where
  pub connection : Held S
  pub rows : ℕ
  pub faults : ℕ

abbrev pub keeping_code : {S : Type 0} → Coded S → Coded (Keeping S)
keeping_code {S} store =
    code_by (Held S × (ℕ × ℕ)) (coded× (held_code store) (coded× coded_ℕ coded_ℕ)) (λ k. (k.connection, (k.rows, k.faults)))
    (λ p. record { connection = p.0; rows = p.1.0; faults = p.1.1 }) (λ _. refl)

-- the rows are in the table of its database, and it counts them
pub record KeepsRows {S : Type 0} (g : Ghosts S) (keeper : Keeping S) (rows : List (List ℕ)) : Type 0 where
  pub holds : HoldsRows (state g keeper.connection) rows
  pub counts : keeper.rows ≡ length rows

-- the same, unless a fault of the disk closed the connection
abbrev pub StillKeeps : {S : Type 0} → Ghosts S → Keeping S → List (List ℕ) → Type 0
StillKeeps g keeper rows = IsTrue (state g keeper.connection).is_open → KeepsRows g keeper rows

-- want of memory is no fault
abbrev pub faults_after : KeepFault → ℕ → ℕ
faults_after Failed count = one_more count
faults_after NoMemory count = count

-- a statement that lacked memory is told from one that was refused
abbrev pub fault_by : ErrorCode → KeepFault
fault_by OutOfMemory = NoMemory
fault_by _ = Failed

abbrev pub fault_of : Error → KeepFault
fault_of (SqliteFailure code) = fault_by code
fault_of _ = Failed
