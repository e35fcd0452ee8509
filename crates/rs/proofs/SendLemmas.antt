-- The rows of a file may be handed to a thread: SQLite's own record of the file's calls, which only proofs read, owns nothing.
use denote.Param.Send.{IsSend, owning_send, sendable, recorded_send, struct_send}
use denote.Struct.Declared.{shape}
use Rattle.std.proofs.fs.File.TheSendSync.{the_field_send as file_send}
use Rattle.sqlite_std_file.specs.contracts.record.Record as record'
use Rattle.sqlite_std_file.specs.contracts.host.Host as host
use Rattle.sqlite_disk.proofs.modelled.Modelled.TheSendSync.{the_send as modelled_send}
use Rattle.sqlite_store.proofs.store.FileStore.TheSendSync.{the_send as store_send}
use Rattle.rs_sqlite.proofs.sql_keeper.SqlKeeper.TheSendSync.{the_send as keeper_send}
use Rattle.rs.specs.contracts.rows.FileRows as rows

pub record_send : IsSend record'.the_row
record_send = owning_send record'.the_type (search sendable, tt) (λ d. tt) (λ k x w. tt)

pub host_send : IsSend host.the_row
host_send = recorded_send host.the_field.row _ _ host.the_type.to_one (struct_send (shape host.the_type) (file_send, (record_send, tt)))

pub file_rows_send : IsSend rows.the_row
file_rows_send = recorded_send rows.the_field.row _ _ rows.the_type.to_one (struct_send (shape rows.the_type)
    (search (sendable, keeper_send, store_send, modelled_send, host_send), tt))
