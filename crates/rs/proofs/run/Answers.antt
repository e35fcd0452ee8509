use denote.Param.Send.{sendable}
use Rattle.rs.proofs.SendLemmas.{file_rows_send}
use Rattle.rs.proofs.run.Goals as goal

pub serve-requires-send-F-Rows : goal.serve-requires-send-F-Rows
serve-requires-send-F-Rows g c κs within = search (sendable, file_rows_send)
