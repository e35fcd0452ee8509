-- The steps of `grant` and `revoke`.
use Rattle.std.specs.Prelude.{◌≡◌, ℕ, ◌⊎◌, List, Result, Ok, Err}
use Rattle.rs_scope.specs.declared.scope.Scope.{Scope}
use Rattle.rs_row.specs.declared.open_fault.OpenFault.{OpenFault}
use Rattle.rs_rules.specs.declared.reply.Reply.{Reply}
use Rattle.rs_rules.specs.declared.reply.Reply.TheVariants as reply
use Rattle.rs_rules.specs.declared.request.Request.{Request}
use Rattle.rs_rules.specs.declared.request.Request.TheVariants.{Store, Grant, Revoke}
use Rattle.rs_rules.specs.Contents.{Contents}
use Rattle.rs_rules.specs.Histories.{History}
use Rattle.rs_user.specs.declared.state.UserState.{UserState}
use Rattle.rs_user.specs.Standing.{StandsFor}
use Rattle.rs_user.specs.Openings.{AreToldRows}
use Rattle.rs_cli.specs.declared.request_fault.RequestFault.{RequestFault}
use Rattle.rs_cli.specs.declared.request_fault.RequestFault.TheVariants as asked
use Rattle.rs_cli.specs.declared.note.Note.{Note}
use Rattle.rs_face.specs.Courses.{Course, HasFailed, IsSame}
use Rattle.rs_cli.specs.Grants.{SpelledBy, OpeningFails, NotOpened, Has, after_reply, RequestFails, Revokes, NotRevoked, Grants, GivesUp}

-- the state stands for the history that the rows spell
pub record OpensState {T R : Type 0} (tree_stands : T → Contents → Type 0) (rows : Course (List (List ℕ))) (count : ℕ) (state : UserState T R) : Type 0 where
  pub history : History
  pub spelled : SpelledBy rows.old history
  pub rows_are : AreToldRows rows.old history
  pub stands : StandsFor tree_stands state history
  pub counted : state.rows ≡ count

-- the rows were opened, or why not
abbrev pub OpensRows : {T R : Type 0} → (T → Contents → Type 0) → Course (List (List ℕ)) → ℕ → Result (UserState T R) OpenFault → Type 0
OpensRows tree_stands rows count (Ok state) = OpensState tree_stands rows count state
OpensRows tree_stands rows count (Err fault) = OpeningFails rows fault

-- the request grants or revokes the token
abbrev pub IsAbout : Request → List ℕ → Type 0
IsAbout (Store call) token = ⊥
IsAbout (Grant granted scopes) token = granted ≡ token
IsAbout (Revoke revoked) token = revoked ≡ token

-- the reply to a grant or a revocation that is done
abbrev pub done_reply : Request → Reply
done_reply (Store call) = reply.StoreFailed
done_reply (Grant token scopes) = reply.Granted
done_reply (Revoke token) = reply.Revoked

-- what a reply to a grant or a revocation of the token comes to
abbrev pub fault_of_reply : Reply → List ℕ → Result (Unit {0}) RequestFault
fault_of_reply reply.Granted token = Ok tt
fault_of_reply reply.Revoked token = Ok tt
fault_of_reply reply.NotGranted token = Err asked.NotGranted
fault_of_reply reply.RecordsFull token = Err asked.RecordsFull
fault_of_reply reply.TokenTaken token = Err (asked.TokenTaken token)
fault_of_reply given token = Err asked.KeeperFailed

-- the request was done; or why not, and then the rows are as before
abbrev pub Asks : History → Request → List ℕ → Course (List (List ℕ)) → Result (Unit {0}) RequestFault → Type 0
Asks h r token rows (Ok done) = Has h r rows (done_reply r)
Asks h r token rows (Err fault) = IsSame rows × RequestFails h r token rows fault

-- the history with the record of the request that is done
abbrev pub after_request : History → Request → History
after_request h r = after_reply h r (done_reply r)

-- the token's scopes were taken away; or why not, and then the rows are as before
abbrev pub RevokedOr : List ℕ → Course (List (List ℕ)) → Result (Unit {0}) Note → Type 0
RevokedOr token rows (Ok done) = Revokes token rows
RevokedOr token rows (Err said) = IsSame rows × (NotOpened rows said ⊎ NotRevoked token rows said)

-- a token was granted; or why not, and then the rows are as before
abbrev pub GrantedOr : List Scope → Course (List (List ℕ)) → Course (List ℕ) → Result (List ℕ) Note → Type 0
GrantedOr scopes rows words (Ok token) = Grants scopes rows words token
GrantedOr scopes rows words (Err said) = IsSame rows × GivesUp scopes rows words said
