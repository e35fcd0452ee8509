-- How a database file says what its rows are: its user version.
use Rattle.std.specs.Prelude.{ℕ}
use Rattle.rs_face.specs.declared.keeper.KeepFault.{KeepFault}
use Rattle.rs_face.specs.declared.keeper.KeepFault.TheVariants.{Failed, NoMemory}
use Rattle.sqlite_trees.specs.declared.error.StoreError.{StoreError}
use Rattle.sqlite_trees.specs.declared.error.StoreError.TheVariants.{OutOfMemory}
use Rattle.rs_sqlite.specs.declared.file_kind.FileKind.{FileKind}
use Rattle.rs_sqlite.specs.declared.file_kind.FileKind.TheVariants.{UserRows, Journal}

-- the letters `rs`, and the number of the kind
abbrev pub mark_of : FileKind → ℕ
mark_of UserRows = 0x72730001
mark_of Journal = 0x72730002

-- a store that lacked memory is told from one that failed
abbrev pub fault_of_store : StoreError → KeepFault
fault_of_store OutOfMemory = NoMemory
fault_of_store _ = Failed
