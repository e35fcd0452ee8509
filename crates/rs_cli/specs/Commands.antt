-- How words are read as a command.
use Rattle.std.specs.Prelude.{◌≡◌, ℕ, Bool, true, false, ◌&&◌, ◌==◌, max, List, [], ◌∷◌, map, get_or, Option, Some, None, option_map, Result, Ok, Err, codes, if◌then◌else◌}
use Rattle.std.specs.Str.{bytes_eq}
use Rattle.rs_path.specs.Kinds.{is_kind}
use Rattle.rs_path.specs.Paths.{Path}
use Rattle.rs_scope.specs.declared.scope.Scope.{Scope}
use Rattle.rs_scope.specs.Tokens.{token_reading}
use Rattle.rs_scope.specs.ScopeReadings.{scopes_reading}
use Rattle.rs_talk.specs.declared.root_fault.RootFault.{RootFault}
use Rattle.rs_talk.specs.declared.root_fault.RootFault.TheVariants as root_fault
use Rattle.rs_talk.specs.Bearers.{is_bearer}
use Rattle.rs_talk.specs.Roots.{Root, root_reading}
use Rattle.rs_cache.specs.declared.resolve.Resolve.{Resolve as How}
use Rattle.rs_cli.specs.declared.command.Command.{Command}
use Rattle.rs_cli.specs.declared.command.Command.TheVariants.{Pipe, Grant, Revoke, Connect, Put, Get, Remove, List as ListFolder, Status, Conflicts, Resolve, Help, Version}
use Rattle.rs_cli.specs.declared.command.RowsFile.{RowsFile}
use Rattle.rs_cli.specs.declared.command.Serving.{Serving}
use Rattle.rs_cli.specs.declared.command.RowsFile.TheVariants as file
use Rattle.rs_cli.specs.declared.command.WordFault.{WordFault}
use Rattle.rs_cli.specs.declared.command.WordFault.TheVariants.{Word, Https, NoMemory}
use Rattle.rs_cli.specs.declared.forms.Form.{Form}
use Rattle.rs_cli.specs.Forms.{how_spelled, path_spelled, tests_of, wrong_word}
use Rattle.rs_cli.specs.Scans.{fits, some_fits, most_taken}
use Rattle.rs_cli.specs.Numbers.{number_spelled}
use Rattle.rs_config.specs.Secrets.{secret_reading}

-- the quota where none is given, in bytes
abbrev pub default_quota : ℕ
default_quota = 1073741824

-- the server's address where none is given
abbrev pub default_base : List ℕ
default_base = codes "http://localhost"

-- how a `pipe` is set up: its quota in bytes, the server's address, the salt and the digest of the user's password
pub record Setting : Type 0 where
  pub quota : ℕ
  pub base : List ℕ
  pub salt : List ℕ
  pub secret : Option (List ℕ)

-- where no more is given than a quota
abbrev pub plain_setting : ℕ → Setting
plain_setting quota = record { quota = quota; base = default_base; salt = []; secret = None }

-- where all is given
abbrev pub full_setting : Option ℕ → List ℕ → List ℕ → Option (List ℕ) → Option Setting
full_setting None base salt secret = None
full_setting (Some quota) base salt None = None
full_setting (Some quota) base salt (Some secret) = Some (record { quota = quota; base = base; salt = salt; secret = Some secret })

-- by the words after SCOPES
abbrev pub setting_of : List (List ℕ) → Option Setting
setting_of [] = Some (plain_setting default_quota)
setting_of (quota ∷ []) = option_map plain_setting (number_spelled quota)
setting_of (quota ∷ base ∷ []) = None
setting_of (quota ∷ base ∷ salt ∷ []) = None
setting_of (quota ∷ base ∷ salt ∷ secret ∷ []) = full_setting (number_spelled quota) base salt (secret_reading secret)
setting_of (quota ∷ base ∷ salt ∷ secret ∷ other ∷ others) = None

-- the setting of what `pipe` serves
abbrev pub setting_in : Serving → Setting
setting_in serving = record { quota = serving.quota; base = serving.base.now; salt = serving.salt.now; secret = serving.secret }

-- the words are `pipe`, the user, the token, the scopes and maybe a quota, and then maybe the address, the salt and the digest
pub record IsPipe (user token : List ℕ) (scopes : List Scope) (setting : Setting) (words : List (List ℕ)) : Type 0 where
  pub token_word : List ℕ
  pub scopes_word : List ℕ
  pub rest : List (List ℕ)
  pub are : words ≡ codes "pipe" ∷ user ∷ token_word ∷ scopes_word ∷ rest
  pub token_is : token_reading token_word ≡ Some token
  pub scopes_are : scopes_reading scopes_word ≡ Ok scopes
  pub setting_is : setting_of rest ≡ Some setting

-- the words are `grant` and the scopes
pub record IsGrant (scopes : List Scope) (words : List (List ℕ)) : Type 0 where
  pub scopes_word : List ℕ
  pub are : words ≡ codes "grant" ∷ scopes_word ∷ []
  pub scopes_are : scopes_reading scopes_word ≡ Ok scopes

-- the words are `revoke` and the token
pub record IsRevoke (token : List ℕ) (words : List (List ℕ)) : Type 0 where
  pub token_word : List ℕ
  pub are : words ≡ codes "revoke" ∷ token_word ∷ []
  pub token_is : token_reading token_word ≡ Some token

-- ---- the words of a client's commands

-- the words are `connect`, the root, the token and the scopes
pub record IsConnect (root : Root) (token : List ℕ) (scopes : List Scope) (words : List (List ℕ)) : Type 0 where
  pub root_word : List ℕ
  pub scopes_word : List ℕ
  pub are : words ≡ codes "connect" ∷ root_word ∷ token ∷ scopes_word ∷ []
  pub root_is : root_reading root_word ≡ Ok root
  pub token_is : is_bearer token ≡ true
  pub scopes_are : scopes_reading scopes_word ≡ Ok scopes

-- the words are `put`, the path of a document and the content type
pub record IsPut (path : Path) (kind : List ℕ) (words : List (List ℕ)) : Type 0 where
  pub path_word : List ℕ
  pub are : words ≡ codes "put" ∷ path_word ∷ kind ∷ []
  pub path_is : path_spelled path_word ≡ Some path
  pub document : path.folder ≡ false
  pub kind_is : is_kind kind ≡ true

-- the words are this name and the path, which is that of a folder or of a document
pub record IsAbout (name : List ℕ) (folder : Bool) (path : Path) (words : List (List ℕ)) : Type 0 where
  pub path_word : List ℕ
  pub are : words ≡ name ∷ path_word ∷ []
  pub path_is : path_spelled path_word ≡ Some path
  pub flag : path.folder ≡ folder

-- the words are `resolve`, the number, and `keep` or `drop`
pub record IsResolve (n : ℕ) (how : How) (words : List (List ℕ)) : Type 0 where
  pub number_word : List ℕ
  pub how_word : List ℕ
  pub are : words ≡ codes "resolve" ∷ number_word ∷ how_word ∷ []
  pub number_is : number_spelled number_word ≡ Some n
  pub how_is : how_spelled how_word ≡ Some how

-- ---- all commands

-- the words ask for the command
abbrev pub AsksFor : Command → List (List ℕ) → Type 0
AsksFor (Pipe serving) words = IsPipe serving.user.now serving.token serving.scopes (setting_in serving) words
AsksFor (Grant scopes) words = IsGrant scopes words
AsksFor (Revoke token) words = IsRevoke token words
AsksFor (Connect root token scopes) words = IsConnect root token scopes words
AsksFor (Put document kind) words = IsPut document.path kind words
AsksFor (Get document) words = IsAbout (codes "get") false document.path words
AsksFor (Remove document) words = IsAbout (codes "rm") false document.path words
AsksFor (ListFolder folder) words = IsAbout (codes "ls") true folder.path words
AsksFor Status words = words ≡ codes "status" ∷ []
AsksFor Conflicts words = words ≡ codes "conflicts" ∷ []
AsksFor (Resolve n how) words = IsResolve n how words
AsksFor Help words = words ≡ codes "--help" ∷ []
AsksFor Version words = words ≡ codes "--version" ∷ []

-- the file of rows that the command wants
abbrev pub file_of : Command → RowsFile
file_of (Pipe serving) = file.User
file_of (Grant scopes) = file.User
file_of (Revoke token) = file.User
file_of (Connect root token scopes) = file.Journal
file_of (Put document kind) = file.Journal
file_of (Get document) = file.Journal
file_of (Remove document) = file.Journal
file_of (ListFolder folder) = file.Journal
file_of Status = file.Journal
file_of Conflicts = file.Journal
file_of (Resolve n how) = file.Journal
file_of Help = file.None
file_of Version = file.None

-- the same of words that were read; those that are in no form want none
abbrev pub rows_file_of : Result Command WordFault → RowsFile
rows_file_of (Ok command) = file_of command
rows_file_of (Err fault) = file.None

-- ---- what is wrong

-- the word at the index, and an empty one behind the last
abbrev pub word_at : List (List ℕ) → ℕ → List ℕ
word_at words i = get_or words i []

-- an `https` address was read
abbrev pub is_https : Result Root RootFault → Bool
is_https (Err root_fault.Https) = true
is_https other = false

-- the words are `connect` and an `https` address, whatever follows
abbrev pub names_https : List (List ℕ) → Bool
names_https words = bytes_eq (word_at words 0) (codes "connect") && is_https (root_reading (word_at words 1))

-- what is said of the first wrong word, at this index: of an `https` address behind `connect` that it is one, of another its index
abbrev pub words_fault : List (List ℕ) → ℕ → WordFault
words_fault words index = if index == 1 && names_https words then Https else Word index

-- why the words are no command, if they are none
abbrev pub word_fault : List (List ℕ) → Option WordFault
word_fault words = option_map (words_fault words) (wrong_word words)

-- the words were read: they ask for the command; or it is told why they are none; or memory ran out
abbrev pub ReadsCommand : Result Command WordFault → List (List ℕ) → Type 0
ReadsCommand (Ok command) words = (wrong_word words ≡ None) × AsksFor command words
ReadsCommand (Err NoMemory) words = Unit {0}
ReadsCommand (Err fault) words = word_fault words ≡ Some fault

-- ---- parts

-- the words are in the form; or the index of the first wrong one is told; or memory ran out
abbrev pub FindsForm : Result Form WordFault → List (List ℕ) → Type 0
FindsForm (Ok form) words = (wrong_word words ≡ None) × (fits (tests_of form) words ≡ true)
FindsForm (Err (Word index)) words = wrong_word words ≡ Some index
FindsForm (Err Https) words = ⊥
FindsForm (Err NoMemory) words = Unit {0}

-- the words are in one of these forms; or in none, and the index is the most words that took their places, in these forms or,
-- so many, in others; or memory ran out
abbrev pub FindsAmong : List Form → ℕ → Result Form WordFault → List (List ℕ) → Type 0
FindsAmong forms most (Ok form) words = (some_fits (map tests_of forms) words ≡ true) × (fits (tests_of form) words ≡ true)
FindsAmong forms most (Err (Word index)) words =
    (some_fits (map tests_of forms) words ≡ false) × (index ≡ max most (most_taken (map tests_of forms) words))
FindsAmong forms most (Err Https) words = ⊥
FindsAmong forms most (Err NoMemory) words = Unit {0}
