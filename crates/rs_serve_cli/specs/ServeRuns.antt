-- What the command `serve` does, and how it ends.
use Rattle.std.specs.Prelude.{◌≡◌, ℕ, ◌⊎◌, Bool, true, false, List, [], ◌∷◌, ◌++◌, codes, decimal, length, ◌<◌, ◌≤◌, map, Option, Some, None, Result, Ok, Err}
use Rattle.clap.specs.Words.{Text}
use Rattle.rs_face.specs.Courses.{Course, IsUntouched}
use Rattle.rs_row.specs.declared.open_fault.OpenFault.{OpenFault}
use Rattle.rs_hall.specs.declared.hall_fault.HallFault.TheVariants.{User}
use Rattle.rs_config.specs.declared.config_fault.ConfigFault.{ConfigFault}
use Rattle.rs_config.specs.declared.serve_config.Room.{Room}
use Rattle.rs_config.specs.declared.serve_config.ServeConfig.{ServeConfig}
use Rattle.rs_config.specs.declared.words.ServeWords.{ServeWords}
use Rattle.rs_config.specs.declared.words.ServeFault.{ServeFault}
use Rattle.rs_config.specs.declared.words.ServeFault.TheVariants as words_fault
use Rattle.rs_config.specs.ConfigReadings.{ReadsConfig}
use Rattle.rs_config.specs.ServeWordings.{ReadsServe, serve_help_text}
use Rattle.rs_cli.specs.declared.note.Note.{Note}
use Rattle.rs_cli.specs.declared.note.Note.TheVariants as note
use Rattle.rs_cli.specs.Causes.{note_of_config, note_of_opening}
use Rattle.rs_cli.specs.Grants.{Prints, line_of}
use Rattle.rs_serve.specs.declared.post.Post.{Post}
use Rattle.rs_serve.specs.declared.tally.Tally.{Tally}
use Rattle.rs_serve.specs.Runs.{Tellings}
use Rattle.rs_serve.specs.Servings.{ServesUsers, ServesNobody}

-- the quotas of the users
abbrev pub quotas_in : List Room → List ℕ
quotas_in rooms = map (λ (r : Room). r.quota) rooms

-- the words are what the command takes; or why not
abbrev pub TakesWords : List Text → Result (Unit {0}) ServeFault → Type 0
TakesWords words (Ok done) = (read : ServeWords) × ReadsServe words (Ok read)
TakesWords words (Err fault) = ReadsServe words (Err fault)

-- the posts and the keepers, before and after, and what became of the sink
pub record Premises (N E K : Type 0) : Type 0 where
  pub posts : List (Post N E)
  pub posts' : List (Post N E)
  pub keepers : List K
  pub keepers' : List K
  pub sink : Course (List ℕ)

-- there is a keeper for each account, at least one post and at most 64
pub record IsStaffedFor {N E K : Type 0} (posts : List (Post N E)) (keepers : List K) (config : ServeConfig) : Type 0 where
  pub as_many : length keepers ≡ length config.front.accounts
  pub some_post : 0 < length posts
  pub few_posts : length posts ≤ 64

-- where the words are those of the command and the file is a configuration, posts and keepers are there for it
abbrev pub IsStaffed : {N E K : Type 0} → List (Post N E) → List K → List Text → List ℕ → Type 0
IsStaffed posts keepers words text = (read : ServeWords) (config : ServeConfig) → ReadsServe words (Ok read) → ReadsConfig text (Ok config)
    → IsStaffedFor posts keepers config

module _ {N E K : Type 0} (at : Premises N E K) where
  -- nobody was served: posts and keepers are there as before
  pub record IsUnserved : Type 0 where
    pub posts : at.posts' ≡ at.posts
    pub keepers : at.keepers' ≡ at.keepers

  -- what is said where the words are refused; of a call for help the help is printed
  abbrev pub SaysOfWords : ServeFault → Note → Type 0
  SaysOfWords words_fault.Words said = (said ≡ note.Words) × IsUntouched at.sink
  SaysOfWords words_fault.Help said = Prints at.sink (line_of serve_help_text) said
  SaysOfWords words_fault.NoMemory said = (said ≡ note.NoMemory) × IsUntouched at.sink

  -- the words are refused, and nothing else was done
  pub record RefusesServeWords (words : List Text) (said : Note) : Type 0 where
    pub fault : ServeFault
    pub read : ReadsServe words (Err fault)
    pub says : SaysOfWords fault said
    pub unserved : IsUnserved

  -- the configuration is refused, and nothing was done
  pub record RefusesServeConfig (text : List ℕ) (said : Note) : Type 0 where
    pub fault : ConfigFault
    pub read : ReadsConfig text (Err fault)
    pub says : said ≡ note_of_config fault
    pub silent : IsUntouched at.sink
    pub unserved : IsUnserved

-- a listener failed; otherwise the number of served connections is printed
abbrev pub EndsServing : Course (List ℕ) → Bool → ℕ → Note → Type 0
EndsServing sink true served said = (said ≡ note.ListenerFailed) × IsUntouched sink
EndsServing sink false served said = Prints sink (line_of (codes "served " ++ decimal served)) said

module _ {N E S W K : Type 0} (tells : Tellings N E S W) (rows : K → Option (List (List ℕ))) (row_count faults : K → ℕ) (at : Premises N E K) where
  -- this user is the first whose rows aren't opened, and nobody was served
  pub record RefusesUser (user : Option ℕ) (said : Note) : Type 0 where
    pub who : ℕ
    pub fault : OpenFault
    pub named : user ≡ Some who
    pub refused : ServesNobody rows row_count faults (User who fault) at.posts at.posts' at.keepers at.keepers'
    pub says : said ≡ note_of_opening fault
    pub silent : IsUntouched at.sink

  -- all posts were served
  pub record ServesPosts (config : ServeConfig) (user : Option ℕ) (said : Note) : Type 0 where
    pub tally : Tally
    pub serves : ServesUsers tells rows config.front (quotas_in config.rooms.items) at.posts at.posts' at.keepers at.keepers' tally
    pub ends : EndsServing at.sink tally.failed tally.served said
    pub nobody : user ≡ None

  -- memory ran out while the users were served, or before: posts and keepers may be gone
  pub record WantsMemory (user : Option ℕ) (said : Note) : Type 0 where
    pub says : said ≡ note.NoMemory
    pub silent : IsUntouched at.sink
    pub nobody : user ≡ None

  -- the users of the configuration are served
  abbrev pub ServesConfig : ServeConfig → Option ℕ → Note → Type 0
  ServesConfig config user said = ServesPosts config user said ⊎ RefusesUser user said ⊎ WantsMemory user said

  -- the file is read: its users are served, or it is refused
  abbrev pub ServesFile : List ℕ → Option ℕ → Note → Type 0
  ServesFile text user said =
      ((config : ServeConfig) × ReadsConfig text (Ok config) × ServesConfig config user said)
      ⊎ (RefusesServeConfig at text said × (user ≡ None))

  -- the words are read, and then the file
  abbrev pub RunsServe : List Text → List ℕ → Option ℕ → Note → Type 0
  RunsServe words text user said =
      ((read : ServeWords) × ReadsServe words (Ok read) × ServesFile text user said)
      ⊎ (RefusesServeWords at words said × (user ≡ None))
