-- What is said at the end of a command.
use Rattle.std.specs.Prelude.{ℕ, List, [], ◌++◌, codes, decimal}
use Rattle.rs_path.specs.Targets.{target_text}
use Rattle.rs_scope.specs.Tokens.{token_text}
use Rattle.rs_config.specs.ConfigKeys.{config_key_text}
use Rattle.rs_cli.specs.declared.note.Note.{Note}
use Rattle.rs_cli.specs.declared.note.Note.TheVariants.{Empty, Word, Https, Words, KeeperFailed, NoMemory, NotThere, Clash, RowAt, RowUnlawful, SinkFailed, SourceFailed, OutOfScope, Limit, TooLong, NoConflict, EntropyFailed, TokenTaken, Message, Connected, NotConnected, Config, ConfigToml, ListenerFailed}

-- the code that a note's status has
abbrev pub code_of : Note → ℕ
code_of Empty = 0
code_of (Word index) = 2
code_of Https = 2
code_of Words = 2
code_of KeeperFailed = 3
code_of NoMemory = 5
code_of NotThere = 8
code_of (Clash path) = 9
code_of (RowAt index place) = 10
code_of (RowUnlawful index) = 10
code_of SinkFailed = 11
code_of SourceFailed = 12
code_of OutOfScope = 13
code_of Limit = 14
code_of TooLong = 15
code_of (NoConflict n) = 16
code_of EntropyFailed = 17
code_of (TokenTaken token) = 17
code_of (Message place) = 18
code_of Connected = 19
code_of NotConnected = 20
code_of (Config key) = 21
code_of ConfigToml = 21
code_of ListenerFailed = 22

-- what is said about a status
unfoldable pub note_text : Note → List ℕ
note_text Empty = []
note_text (Word index) = codes "word " ++ decimal index
note_text Https = codes "https is not served"
note_text Words = codes "words"
note_text KeeperFailed = codes "keeper failed"
note_text NoMemory = codes "no memory"
note_text NotThere = codes "not there"
note_text (Clash path) = codes "clash " ++ target_text path
note_text (RowAt index place) = codes "row " ++ (decimal index ++ (codes " at " ++ decimal place))
note_text (RowUnlawful index) = codes "row " ++ (decimal index ++ codes " unlawful")
note_text SinkFailed = codes "sink failed"
note_text SourceFailed = codes "source failed"
note_text OutOfScope = codes "out of scope"
note_text Limit = codes "limit"
note_text TooLong = codes "too long"
note_text (NoConflict n) = codes "no conflict " ++ decimal n
note_text EntropyFailed = codes "entropy failed"
note_text (TokenTaken token) = codes "token taken " ++ token_text token
note_text (Message place) = codes "message at " ++ decimal place
note_text Connected = codes "connected"
note_text NotConnected = codes "not connected"
note_text (Config key) = codes "config " ++ config_key_text key
note_text ConfigToml = codes "config toml"
note_text ListenerFailed = codes "listener failed"
