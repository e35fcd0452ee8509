-- The words of the command `serve`.
use Rattle.std.specs.Prelude.{◌≡◌, ℕ, ◌≤◌, Bool, true, false, pos, List, [], ◌∷◌, codes, Option, Some, is_some, Result, Ok, Err}
use Rattle.std.specs.Str.Parse.{digits_value, without_leading_plus}
use Rattle.clap.specs.Words.{App, Rule, Row, Text, new_app, new_rule, with_rule, matches_of, takes, fault_of, first_of, one_of, first_value, one_text, read_as, reading_of, IsAmong, IsSignedIn}
use Rattle.clap.specs.Simple.{on_top}
use Rattle.clap.specs.declared.builder.action.ArgAction.TheVariants.{Set}
use Rattle.clap.specs.declared.builder.value_parser.ValueParser.TheVariants as parser
use Rattle.clap.specs.declared.error.kind.ErrorKind.{ErrorKind}
use Rattle.clap.specs.declared.error.kind.ErrorKind.TheVariants as kind
use Rattle.clap.specs.declared.parser.matches.Found.{Found}
use Rattle.rs_config.specs.declared.words.ServeWords.{ServeWords}
use Rattle.rs_config.specs.declared.words.ServeFault.{ServeFault}
use Rattle.rs_config.specs.declared.words.ServeFault.TheVariants as fault

-- `--config FILE`, which has to be there
abbrev pub config_rule : Rule
config_rule = record (new_rule (codes "config")) { long = Some (codes "config"); action = Some Set; required = true }

-- `--workers N`, 1 to 64, by default 8
abbrev pub workers_rule : Rule
workers_rule = record (new_rule (codes "workers")) {
  long = Some (codes "workers");
  action = Some Set;
  parser = Some (parser.Signed (pos 1) (pos 64));
  defaults = codes "8" ∷ [];
}

-- the command `serve`, whose words are those after the word `serve`
abbrev pub serve_app : App
serve_app = with_rule (with_rule (on_top (λ s. record s { no_binary_name = true }) (new_app (codes "serve"))) config_rule) workers_rule

-- the number is that of the text, 1 to 64
pub record IsWorkers (text : List ℕ) (workers : ℕ) : Type 0 where
  pub number : workers ≡ digits_value 10 (without_leading_plus text)
  pub least : 1 ≤ workers
  pub most : workers ≤ 64

-- the words are what `clap`'s matches say
pub record HasServeWords (rows : List Row) (words : ServeWords) : Type 0 where
  pub config : first_of (codes "config") rows ≡ Some words.config
  pub text : List ℕ
  pub given : one_of (codes "workers") rows ≡ Some text
  pub workers : IsWorkers text words.workers

-- so in the code's matches
abbrev pub HasWorkers : Found → ℕ → Type 0
HasWorkers found workers = (text : List ℕ) × (one_text found (codes "workers") ≡ Some text) × IsWorkers text workers

-- the matches have a text of each, and that of the workers is a number from 1 to 64
pub record HasServeTexts (found : Found) : Type 0 where
  pub config : is_some (first_value found (codes "config")) ≡ true
  pub text : List ℕ
  pub workers : one_text found (codes "workers") ≡ Some (read_as (reading_of (parser.Signed (pos 1) (pos 64))) text)
  pub number : IsSignedIn (pos 1) (pos 64) text

-- what a kind of error is answered with
abbrev pub serve_fault : ErrorKind → ServeFault
serve_fault kind.OutOfMemory = fault.NoMemory
serve_fault kind.DisplayHelp = fault.Help
serve_fault _ = fault.Words

-- the command doesn't take the words, and one of `clap`'s faults of them is answered so
abbrev pub RefusesWords : List Text → ServeFault → Type 0
RefusesWords words answered = (takes serve_app words ≡ false)
    × ((refused : ErrorKind) × IsAmong refused (fault_of serve_app words) × (serve_fault refused ≡ answered))

-- the words are what the command takes, and what `clap`'s matches say; or why not
abbrev pub ReadsServe : List Text → Result ServeWords ServeFault → Type 0
ReadsServe words (Ok read) = (fault_of serve_app words ≡ []) × HasServeWords (matches_of serve_app words) read
ReadsServe words (Err fault.Help) = RefusesWords words fault.Help
ReadsServe words (Err fault.Words) = RefusesWords words fault.Words
ReadsServe words (Err fault.NoMemory) = Unit {0}

-- what `serve --help` prints, without its last line end
unfoldable pub serve_help_text : List ℕ
serve_help_text = codes "Serves the users of a configuration file over HTTP.\n\nUsage: rs serve [OPTIONS] --config <FILE>\n\nOptions:\n      --config <FILE>  The configuration, a TOML file\n      --workers <N>    How many connections are served at one time, 1 to 64 [default: 8]\n  -h, --help           Print help"
