-- What the program does beside the commands.
use Rattle.std.specs.Prelude.{◌≡◌, ℕ, Bool, ◌||◌, ◌==◌, List, [], ◌∷◌, None, codes, if◌then◌else◌}
use Rattle.std.specs.Str.{bytes_eq}
use Rattle.rs_face.specs.Courses.{Course}
use Rattle.rs_cli.specs.declared.command.Command.{Command}
use Rattle.rs_cli.specs.declared.command.RowsFile.{RowsFile}
use Rattle.rs_cli.specs.declared.command.RowsFile.TheVariants as file
use Rattle.rs_cli.specs.declared.status.Status.{Status}
use Rattle.rs_cli.specs.Commands.{AsksFor, file_of}
use Rattle.rs_cli.specs.Forms.{wrong_word}
use Rattle.rs_cli.specs.Grants.{line_of}
use Rattle.rs_cli.specs.Notes.{note_text}

-- what is said of a status: nothing for code 0, else the note's text and a line end
abbrev pub said_of : Status → List ℕ
said_of status = if status.code == 0 then [] else line_of (note_text status.note)

-- the words ask for a command that wants this file of rows
pub record WantRows (wanted : RowsFile) (words : List (List ℕ)) : Type 0 where
  pub command : Command
  pub right : wrong_word words ≡ None
  pub asked : AsksFor command words
  pub wants : file_of command ≡ wanted

-- ---- which rows

-- the name is that of a command on the rows of a user
abbrev pub is_on_user : List ℕ → Bool
is_on_user name = bytes_eq name (codes "pipe") || bytes_eq name (codes "grant") || bytes_eq name (codes "revoke")

-- the name is that of a command that wants no rows
abbrev pub is_on_none : List ℕ → Bool
is_on_none name = bytes_eq name (codes "--help") || bytes_eq name (codes "--version")

-- the file of rows that a command wants, by its name, which is the first word
abbrev pub file_wanted : List (List ℕ) → RowsFile
file_wanted [] = file.None
file_wanted (name ∷ words) = if is_on_user name then file.User else if is_on_none name then file.None else file.Journal

-- the rows of that file
abbrev pub rows_for : RowsFile → Course (List (List ℕ)) → Course (List (List ℕ)) → Course (List (List ℕ))
rows_for file.User user journal = user
rows_for file.Journal user journal = journal
rows_for file.None user journal = user
