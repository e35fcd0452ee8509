-- The forms that the words of a command line may have.
use Rattle.std.specs.Prelude.{ℕ, ◌+◌, Bool, true, false, not, ◌||◌, List, [], ◌∷◌, map, Option, Some, None, is_some, is_ok, codes, if◌then◌else◌}
use Rattle.std.specs.Result.{result_ok}
use Rattle.std.specs.Str.{bytes_eq}
use Rattle.rs_path.specs.Kinds.{is_kind}
use Rattle.rs_path.specs.Paths.{Path, is_nil}
use Rattle.rs_path.specs.Readings.{target_reading}
use Rattle.rs_path.specs.Users.{is_user}
use Rattle.rs_scope.specs.Tokens.{token_reading}
use Rattle.rs_scope.specs.ScopeReadings.{scopes_reading}
use Rattle.rs_talk.specs.Bearers.{is_bearer}
use Rattle.rs_talk.specs.Roots.{root_reading}
use Rattle.rs_cache.specs.declared.resolve.Resolve.{Resolve}
use Rattle.rs_cache.specs.declared.resolve.Resolve.TheVariants.{Keep, Drop}
use Rattle.rs_cli.specs.declared.forms.Form.{Form}
use Rattle.rs_cli.specs.declared.forms.Form.TheVariants as form
use Rattle.rs_cli.specs.declared.forms.Place.{Place}
use Rattle.rs_cli.specs.declared.forms.Place.TheVariants.{User, Token, Scopes, Number, Origin, Any, Secret, Root, Bearer, Document, Folder, Kind, How}
use Rattle.rs_cli.specs.Numbers.{number_spelled}
use Rattle.rs_config.specs.Origins.{is_origin}
use Rattle.rs_config.specs.Secrets.{secret_reading}

-- ---- words

-- the path that a word spells as it stands in the target of a request
abbrev pub path_spelled : List ℕ → Option Path
path_spelled word = result_ok (target_reading word)

-- there is a path, and it is a document's
abbrev pub is_document_path : Option Path → Bool
is_document_path None = false
is_document_path (Some path) = not path.folder

-- there is a path, and it is a folder's
abbrev pub is_folder : Option Path → Bool
is_folder None = false
is_folder (Some path) = path.folder

-- how a conflict is resolved, by its word
abbrev pub how_spelled : List ℕ → Option Resolve
how_spelled word = if bytes_eq word (codes "keep") then Some Keep
    else if bytes_eq word (codes "drop") then Some Drop
    else None

-- what a place takes: USER; TOKEN, 32 lower hexadecimal digits; SCOPES; a number; an origin; any word; SECRET, 64
-- lower hexadecimal digits; ROOT, an `http` address; TOKEN of an account; PATH; FOLDER; TYPE; `keep` or `drop`
abbrev pub takes : Place → List ℕ → Bool
takes User word = is_user word
takes Token word = is_some (token_reading word)
takes Scopes word = is_ok (scopes_reading word)
takes Number word = is_some (number_spelled word)
takes Origin word = is_origin word
takes Any word = true
takes Secret word = is_some (secret_reading word)
takes Root word = is_ok (root_reading word)
takes Bearer word = is_bearer word
takes Document word = is_document_path (path_spelled word)
takes Folder word = is_folder (path_spelled word)
takes Kind word = is_kind word
takes How word = is_some (how_spelled word)

-- ---- the table

-- a row: the name of the command, and the places behind it
pub record NamedPlaces : Type 0 where
  pub name : List ℕ
  pub places : List Place

abbrev pub named_places : Form → NamedPlaces
named_places form.Pipe = record { name = codes "pipe"; places = User ∷ Token ∷ Scopes ∷ [] }
named_places form.PipeUnder = record { name = codes "pipe"; places = User ∷ Token ∷ Scopes ∷ Number ∷ [] }
named_places form.PipeAt = record { name = codes "pipe"; places = User ∷ Token ∷ Scopes ∷ Number ∷ Origin ∷ Any ∷ Secret ∷ [] }
named_places form.Grant = record { name = codes "grant"; places = Scopes ∷ [] }
named_places form.Revoke = record { name = codes "revoke"; places = Token ∷ [] }
named_places form.Connect = record { name = codes "connect"; places = Root ∷ Bearer ∷ Scopes ∷ [] }
named_places form.Put = record { name = codes "put"; places = Document ∷ Kind ∷ [] }
named_places form.Get = record { name = codes "get"; places = Document ∷ [] }
named_places form.Remove = record { name = codes "rm"; places = Document ∷ [] }
named_places form.List = record { name = codes "ls"; places = Folder ∷ [] }
named_places form.Status = record { name = codes "status"; places = [] }
named_places form.Conflicts = record { name = codes "conflicts"; places = [] }
named_places form.Resolve = record { name = codes "resolve"; places = Number ∷ How ∷ [] }
named_places form.Help = record { name = codes "--help"; places = [] }
named_places form.Version = record { name = codes "--version"; places = [] }

abbrev pub forms : List Form
forms = form.Pipe ∷ form.PipeUnder ∷ form.PipeAt ∷ form.Grant ∷ form.Revoke ∷ form.Connect ∷ form.Put ∷ form.Get ∷ form.Remove
    ∷ form.List ∷ form.Status ∷ form.Conflicts ∷ form.Resolve ∷ form.Help ∷ form.Version ∷ []

-- the word itself
abbrev pub literally : List ℕ → List ℕ → Bool
literally text word = bytes_eq word text

-- what each place of a form takes, the name in front
abbrev pub tests_of : Form → List (List ℕ → Bool)
tests_of it = literally (named_places it).name ∷ map takes (named_places it).places

-- ---- the first wrong word

-- the forms whose next place takes the word, without that place
abbrev pub forms_after : List ℕ → List (List (List ℕ → Bool)) → List (List (List ℕ → Bool))
forms_after word [] = []
forms_after word ([] ∷ others) = forms_after word others
forms_after word ((takes ∷ places) ∷ others) = if takes word then places ∷ forms_after word others else forms_after word others

-- some form has no place left
abbrev pub some_ends : List (List (List ℕ → Bool)) → Bool
some_ends [] = false
some_ends (tests ∷ others) = is_nil tests || some_ends others

-- the index, counted from i, of the first word with which none of the forms goes on; where all words begin a form and none
-- ends there, it is the number of words. None where the words are in some form
abbrev pub first_wrong : ℕ → List (List (List ℕ → Bool)) → List (List ℕ) → Option ℕ
first_wrong i going [] = if some_ends going then None else Some i
first_wrong i going (word ∷ words) =
    if is_nil (forms_after word going) then Some i else first_wrong (i + 1) (forms_after word going) words

abbrev pub wrong_word : List (List ℕ) → Option ℕ
wrong_word words = first_wrong 0 (map tests_of forms) words
