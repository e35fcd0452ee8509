-- What is said of each cause: one step from a cause to a note.
use Rattle.std.specs.Prelude.{Result, Ok, Err}
use Rattle.rs_face.specs.declared.sink.SinkFault.{SinkFault}
use Rattle.rs_face.specs.declared.sink.SinkFault.TheVariants as sink
use Rattle.rs_row.specs.declared.open_fault.OpenFault.{OpenFault}
use Rattle.rs_row.specs.declared.open_fault.OpenFault.TheVariants as opening
use Rattle.rs_front.specs.declared.serve.End.{End}
use Rattle.rs_front.specs.declared.serve.End.TheVariants as end
use Rattle.rs_client.specs.declared.client_fault.ClientFault.{ClientFault}
use Rattle.rs_client.specs.declared.client_fault.ClientFault.TheVariants as client
use Rattle.rs_config.specs.declared.config_fault.ConfigFault.{ConfigFault}
use Rattle.rs_config.specs.declared.config_fault.ConfigFault.TheVariants as config
use Rattle.rs_cli.specs.declared.request_fault.RequestFault.{RequestFault}
use Rattle.rs_cli.specs.declared.request_fault.RequestFault.TheVariants as asked
use Rattle.rs_cli.specs.declared.command.WordFault.{WordFault}
use Rattle.rs_cli.specs.declared.command.WordFault.TheVariants as words
use Rattle.rs_cli.specs.declared.note.Note.{Note}
use Rattle.rs_cli.specs.declared.note.Note.TheVariants as note

-- words that are no command
abbrev pub note_of_words : WordFault → Note
note_of_words (words.Word index) = note.Word index
note_of_words words.Https = note.Https
note_of_words words.NoMemory = note.NoMemory

-- a command on a journal that isn't done
abbrev pub note_of_client : ClientFault → Note
note_of_client (client.BadRow index place) = note.RowAt index place
note_of_client (client.Unlawful index) = note.RowUnlawful index
note_of_client client.Connected = note.Connected
note_of_client client.NotConnected = note.NotConnected
note_of_client client.SourceFailed = note.SourceFailed
note_of_client client.TooLong = note.TooLong
note_of_client client.OutOfScope = note.OutOfScope
note_of_client (client.Clash path) = note.Clash path
note_of_client client.NotThere = note.NotThere
note_of_client (client.NoConflict n) = note.NoConflict n
note_of_client client.JournalFull = note.Limit
note_of_client client.KeeperFailed = note.KeeperFailed
note_of_client client.NoMemory = note.NoMemory

-- a configuration that is refused
abbrev pub note_of_config : ConfigFault → Note
note_of_config config.Toml = note.ConfigToml
note_of_config (config.Key key) = note.Config key
note_of_config config.NoMemory = note.NoMemory

-- rows that are not opened
abbrev pub note_of_opening : OpenFault → Note
note_of_opening (opening.BadRow index place) = note.RowAt index place
note_of_opening (opening.Unlawful index) = note.RowUnlawful index
note_of_opening opening.KeeperFailed = note.KeeperFailed
note_of_opening opening.NoMemory = note.NoMemory

-- a grant or a revocation that adds no record
abbrev pub note_of_request : RequestFault → Note
note_of_request asked.NotGranted = note.NotThere
note_of_request asked.RecordsFull = note.Limit
note_of_request (asked.TokenTaken token) = note.TokenTaken token
note_of_request asked.KeeperFailed = note.KeeperFailed
note_of_request asked.NoMemory = note.NoMemory

-- a printed line
abbrev pub note_of_printing : {A : Type 0} → Result A SinkFault → Note
note_of_printing (Ok done) = note.Empty
note_of_printing (Err sink.Failed) = note.SinkFailed
note_of_printing (Err sink.NoMemory) = note.NoMemory

-- the end of a connection
abbrev pub note_of_end : End → Note
note_of_end end.Closed = note.Empty
note_of_end end.Limit = note.Limit
note_of_end end.ReadFault = note.SourceFailed
note_of_end end.WriteFault = note.SinkFailed
note_of_end end.NoMemory = note.NoMemory
note_of_end (end.BadMessage f) = note.Message f.place
