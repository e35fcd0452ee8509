-- What `pipe` does to the rows of a user, reads and writes.
use Rattle.std.specs.Prelude.{◌≡◌, ℕ, ◌⊎◌, true, List, [], ◌∷◌, Option, None, is_some, Result, Ok, Err}
use Rattle.rs_scope.specs.declared.scope.Scope.{Scope}
use Rattle.rs_record.specs.declared.records.Record.TheVariants.{Grant as GrantRecord}
use Rattle.rs_rules.specs.declared.reply.Reply.TheVariants as reply
use Rattle.rs_rules.specs.declared.request.Request.TheVariants.{Grant}
use Rattle.rs_rules.specs.Contents.{Contents}
use Rattle.rs_rules.specs.Histories.{History, with_entry, IsFront}
use Rattle.rs_rules.specs.Tokens.{scopes_of}
use Rattle.rs_rules.specs.Answers.{answer}
use Rattle.rs_user.specs.declared.state.UserState.{UserState}
use Rattle.rs_user.specs.Standing.{StandsFor}
use Rattle.rs_user.specs.Openings.{AreToldRows}
use Rattle.rs_exchange.specs.declared.account.Config.{Config}
use Rattle.rs_cli.specs.Commands.{Setting}
use Rattle.rs_config.specs.Origins.{host_of}
use Rattle.rs_front.specs.declared.serve.End.{End}
use Rattle.rs_front.specs.Due.{Users}
use Rattle.rs_front.specs.Ends.{Serves}
use Rattle.rs_cli.specs.declared.note.Note.{Note}
use Rattle.rs_cli.specs.declared.request_fault.RequestFault.{RequestFault}
use Rattle.rs_cli.specs.Causes.{note_of_end}
use Rattle.rs_face.specs.Courses.{Course, IsSame, IsUntouched}
use Rattle.rs_cli.specs.Grants.{SpelledBy, NotOpened, RequestFails, Refused}

-- ---- the history that is served

-- it is the one that the rows spell where the token is granted in it; else the Grant, which that one allows, follows it
abbrev pub WithGrant : History → List ℕ → List Scope → ℕ → History → Type 0
WithGrant h token scopes quota first =
    ((is_some (scopes_of h token) ≡ true) × (first ≡ h))
    ⊎ ((answer h quota (Grant token scopes) ≡ reply.Granted)
    × (first ≡ with_entry h (record { who = 1; what = GrantRecord token scopes })))

-- the token isn't granted in the history that the rows spell, and that refuses the Grant, or the keeper does
pub record NotBegun (token : List ℕ) (scopes : List Scope) (rows : Course (List (List ℕ))) (note : Note) : Type 0 where
  pub history : History
  pub spelled : SpelledBy rows.old history
  pub ungranted : scopes_of history token ≡ None
  pub refused : Refused history (Grant token scopes) token rows note

-- ---- the connection

-- the server is the user's alone
abbrev pub config_of : List ℕ → Setting → Config
config_of user setting = record {
  base = setting.base;
  host = host_of setting.base;
  accounts = record { name = user; salt = setting.salt; secret = setting.secret } ∷ [];
}

-- the one user's histories, asked under the number 1 by this desk and by nobody else
abbrev pub users_of : (ℕ → History) → ℕ → Users
users_of histories quota = record { history = histories; quota = λ user. quota; me = λ user. 1; alone = true }

-- a connection over the user's history, which goes on from `first`; in the end the rows are those of its last state, and are
-- opened as that
pub record Pipes (config : Config) (first : History) (quota : ℕ) (rows : Course (List (List ℕ))) (source sink wants words : Course (List ℕ)) (note : Note) : Type 0 where
  pub histories : ℕ → History
  pub end : End
  pub serves : Serves (users_of histories quota) config source sink wants words (λ user. first) rows.before rows.now end
  pub goes_on : IsFront first (histories 0)
  pub rows_are : AreToldRows rows.new (histories 0)
  pub said : note ≡ note_of_end end

-- the source was served to the sink, from the history that the rows spell on
pub record Begun (config : Config) (token : List ℕ) (scopes : List Scope) (quota : ℕ) (rows : Course (List (List ℕ))) (source sink wants words : Course (List ℕ)) (note : Note) : Type 0 where
  pub history : History
  pub spelled : SpelledBy rows.old history
  pub rows_were : AreToldRows rows.old history
  pub first : History
  pub begins : WithGrant history token scopes quota first
  pub pipes : Pipes config first quota rows source sink wants words note

-- ---- `pipe`

-- the source was served to the sink; or the rows, the source, the sink and the entropy are as they were, since the rows were not
-- opened, or the token not granted
abbrev pub PipeEnds : Config → List ℕ → List Scope → ℕ → Course (List (List ℕ)) → (source sink wants words : Course (List ℕ)) → Note → Type 0
PipeEnds config token scopes quota rows source sink wants words note =
    Begun config token scopes quota rows source sink wants words note
    ⊎ (IsSame rows × IsUntouched source × IsUntouched sink × IsUntouched words × (NotOpened rows note ⊎ NotBegun token scopes rows note))

-- ---- parts

module _ {T R : Type 0} (tree_stands : T → Contents → Type 0) where
  -- the state stands for the history, whose rows are kept, and counts them
  pub record IsOpenState (rows : Option (List (List ℕ))) (count quota : ℕ) (state : UserState T R) (h : History) : Type 0 where
    pub stands : StandsFor tree_stands state h
    pub spells : AreToldRows rows h
    pub counted : count ≡ state.rows
    pub quota_is : state.quota ≡ quota

  -- the state stands for the history with the Grant where that was missing
  pub record IsGranted (h : History) (token : List ℕ) (scopes : List Scope) (rows : Option (List (List ℕ))) (count quota : ℕ) (state : UserState T R) : Type 0 where
    pub first : History
    pub begins : WithGrant h token scopes quota first
    pub ready : IsOpenState rows count quota state first

  -- the token was granted where that was missing; or why not, and then the rows are as before
  abbrev pub GrantsWhereMissing : History → List ℕ → List Scope → Course (List (List ℕ)) → ℕ → ℕ → UserState T R → Result (Unit {0}) RequestFault → Type 0
  GrantsWhereMissing h token scopes rows count quota state (Ok done) = IsGranted h token scopes rows.new count quota state
  GrantsWhereMissing h token scopes rows count quota state (Err fault) =
      IsSame rows × (scopes_of h token ≡ None) × RequestFails h (Grant token scopes) token rows fault

  -- the rows were opened, and the token is granted
  pub record OpensGranted (token : List ℕ) (scopes : List Scope) (rows : Course (List (List ℕ))) (count quota : ℕ) (state : UserState T R) : Type 0 where
    pub history : History
    pub spelled : SpelledBy rows.old history
    pub rows_were : AreToldRows rows.old history
    pub granted : IsGranted history token scopes rows.new count quota state

  -- the rows were opened and the token is granted; or why not, and then the rows are as before
  abbrev pub OpensOr : List ℕ → List Scope → Course (List (List ℕ)) → ℕ → ℕ → Result (UserState T R) Note → Type 0
  OpensOr token scopes rows count quota (Ok state) = OpensGranted token scopes rows count quota state
  OpensOr token scopes rows count quota (Err said) = IsSame rows × (NotOpened rows said ⊎ NotBegun token scopes rows said)
