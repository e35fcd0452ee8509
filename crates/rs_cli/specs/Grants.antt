-- What `grant` and `revoke` do to the rows of a user, and print.
use Rattle.std.specs.Prelude.{◌≡◌, ℕ, ◌⊎◌, List, [], ◌∷◌, ◌++◌, Option, IfSome, Result, Ok, Err, codes}
use Rattle.rs_face.specs.declared.sink.SinkFault.{SinkFault}
use Rattle.rs_face.specs.declared.sink.SinkFault.TheVariants.{Failed}
use Rattle.rs_face.specs.Causes.{HasCause}
use Rattle.rs_face.specs.Rows.{with_rows}
use Rattle.rs_scope.specs.declared.scope.Scope.{Scope}
use Rattle.rs_scope.specs.Tokens.{token_text}
use Rattle.rs_record.specs.declared.records.Record.TheVariants.{Grant as GrantRecord, Revoke as RevokeRecord}
use Rattle.rs_row.specs.declared.open_fault.OpenFault.{OpenFault}
use Rattle.rs_row.specs.declared.open_fault.OpenFault.TheVariants.{BadRow, Unlawful, KeeperFailed, NoMemory}
use Rattle.rs_rules.specs.declared.reply.Reply.{Reply}
use Rattle.rs_rules.specs.declared.reply.Reply.TheVariants as reply
use Rattle.rs_rules.specs.declared.request.Request.{Request}
use Rattle.rs_rules.specs.declared.request.Request.TheVariants.{Grant, Revoke}
use Rattle.rs_rules.specs.Histories.{History, with_entry, with_entries}
use Rattle.rs_rules.specs.Answers.{answer, record_of, entry_of}
use Rattle.rs_user.specs.Openings.{opening, AreToldRows}
use Rattle.rs_user.specs.Turns.{row_of}
use Rattle.rs_cli.specs.declared.request_fault.RequestFault.{RequestFault}
use Rattle.rs_cli.specs.declared.request_fault.RequestFault.TheVariants as asked
use Rattle.rs_cli.specs.declared.note.Note.{Note}
use Rattle.rs_cli.specs.declared.note.Note.TheVariants.{EntropyFailed}
use Rattle.rs_cli.specs.Causes.{note_of_opening, note_of_request, note_of_printing}
use Rattle.rs_cli.specs.Commands.{default_quota}
use Rattle.rs_front.specs.Drawing.{DrawsToken, DrawsFew}
use Rattle.rs_face.specs.Courses.{Course, HasFailed, IsSame, IsUntouched, Writes}

-- ---- the rows

-- the rows, where they are told, spell the history
abbrev pub SpelledBy : Option (List (List ℕ)) → History → Type 0
SpelledBy told h = IfSome told (λ kept. opening kept ≡ Ok h)

-- the rows, where they are told, are refused so
abbrev pub RefusedBy : Option (List (List ℕ)) → OpenFault → Type 0
RefusedBy told fault = IfSome told (λ kept. opening kept ≡ Err fault)

-- why rows are not opened: the first that is wrong; the keeper failed; or memory ran out
abbrev pub OpeningFails : Course (List (List ℕ)) → OpenFault → Type 0
OpeningFails rows (BadRow index place) = RefusedBy rows.old (BadRow index place)
OpeningFails rows (Unlawful index) = RefusedBy rows.old (Unlawful index)
OpeningFails rows KeeperFailed = HasFailed rows
OpeningFails rows NoMemory = Unit {0}

-- the rows were not opened
pub record NotOpened (rows : Course (List (List ℕ))) (note : Note) : Type 0 where
  pub fault : OpenFault
  pub fails : OpeningFails rows fault
  pub said : note ≡ note_of_opening fault

-- ---- a request, which grants or revokes: the quota plays no part in its answer

-- the history with the record of the request that has this reply, if there is one
abbrev pub after_reply : History → Request → Reply → History
after_reply h r given = with_entries h (entry_of 1 (record_of r given))

-- the history gives the request this reply, and the rows have grown by the row of the record that this adds, if it adds one;
-- rows that were those of the history are those of the history with it
pub record Has (h : History) (r : Request) (rows : Course (List (List ℕ))) (given : Reply) : Type 0 where
  pub answered : answer h default_quota r ≡ given
  pub grown : rows.new ≡ with_rows rows.old (row_of (record_of r given))
  pub spells : AreToldRows rows.old h → AreToldRows rows.new (after_reply h r given)

-- why a request adds no record: its reply; the keeper failed; or memory ran out
abbrev pub RequestFails : History → Request → List ℕ → Course (List (List ℕ)) → RequestFault → Type 0
RequestFails h r token rows asked.NotGranted = answer h default_quota r ≡ reply.NotGranted
RequestFails h r token rows asked.RecordsFull = answer h default_quota r ≡ reply.RecordsFull
RequestFails h r token rows (asked.TokenTaken taken) = (answer h default_quota r ≡ reply.TokenTaken) × (taken ≡ token)
RequestFails h r token rows asked.KeeperFailed = HasFailed rows
RequestFails h r token rows asked.NoMemory = Unit {0}

-- the request added no record
pub record Refused (h : History) (r : Request) (token : List ℕ) (rows : Course (List (List ℕ))) (note : Note) : Type 0 where
  pub fault : RequestFault
  pub fails : RequestFails h r token rows fault
  pub said : note ≡ note_of_request fault

-- ---- the printed line

-- the line was printed; or a front of it, where the sink failed or couldn't grow
pub record Prints (sink : Course (List ℕ)) (line : List ℕ) (note : Note) : Type 0 where
  pub result : Result (Unit {0}) SinkFault
  pub writes : Writes sink line result
  pub cause : HasCause sink.before sink.now Failed result
  pub said : note ≡ note_of_printing result

-- a line ends with LF
abbrev pub line_of : List ℕ → List ℕ
line_of text = text ++ 10 ∷ []

-- ---- `revoke`

-- the token's scopes were taken away: the history that the rows spell has the answer Revoked, and the rows its record; they
-- are opened again as the history with it
pub record Revokes (token : List ℕ) (rows : Course (List (List ℕ))) : Type 0 where
  pub history : History
  pub spelled : SpelledBy rows.old history
  pub has : Has history (Revoke token) rows reply.Revoked
  pub reopens : AreToldRows rows.new (with_entry history (record { who = 1; what = RevokeRecord token }))

-- the history that the rows spell refuses
pub record NotRevoked (token : List ℕ) (rows : Course (List (List ℕ))) (note : Note) : Type 0 where
  pub history : History
  pub spelled : SpelledBy rows.old history
  pub refused : Refused history (Revoke token) token rows note

-- `revoke` took the scopes away and printed so; or the rows are as they were, and the sink is untouched
abbrev pub RevokeEnds : List ℕ → Course (List (List ℕ)) → Course (List ℕ) → Note → Type 0
RevokeEnds token rows sink note =
    (Revokes token rows × Prints sink (line_of (codes "revoked")) note)
    ⊎ (IsSame rows × IsUntouched sink × (NotOpened rows note ⊎ NotRevoked token rows note))

-- ---- `grant`

-- a token of two words was granted the scopes: the history that the rows spell has the answer Granted, and the rows its
-- record; they are opened again as the history with it
pub record Grants (scopes : List Scope) (rows : Course (List (List ℕ))) (words : Course (List ℕ)) (token : List ℕ) : Type 0 where
  pub history : History
  pub spelled : SpelledBy rows.old history
  pub draws : DrawsToken words token
  pub has : Has history (Grant token scopes) rows reply.Granted
  pub reopens : AreToldRows rows.new (with_entry history (record { who = 1; what = GrantRecord token scopes }))

-- the history that the rows spell refuses
pub record NotGranted (scopes : List Scope) (rows : Course (List (List ℕ))) (words : Course (List ℕ)) (note : Note) : Type 0 where
  pub history : History
  pub spelled : SpelledBy rows.old history
  pub token : List ℕ
  pub draws : DrawsToken words token
  pub refused : Refused history (Grant token scopes) token rows note

-- the rows spell a history, and the entropy failed before the second word
pub record NotDrawn (rows : Course (List (List ℕ))) (words : Course (List ℕ)) (note : Note) : Type 0 where
  pub history : History
  pub spelled : SpelledBy rows.old history
  pub failed : HasFailed words
  pub few : DrawsFew words
  pub said : note ≡ EntropyFailed

-- why no token was granted
abbrev pub GivesUp : List Scope → Course (List (List ℕ)) → Course (List ℕ) → Note → Type 0
GivesUp scopes rows words note =
    (IsUntouched words × NotOpened rows note) ⊎ NotDrawn rows words note ⊎ NotGranted scopes rows words note

-- `grant` granted a token and printed it; or the rows are as they were, and the sink is untouched
abbrev pub GrantEnds : List Scope → Course (List (List ℕ)) → Course (List ℕ) → Course (List ℕ) → Note → Type 0
GrantEnds scopes rows words sink note =
    ((token : List ℕ) × Grants scopes rows words token × Prints sink (line_of (token_text token)) note)
    ⊎ (IsSame rows × IsUntouched sink × GivesUp scopes rows words note)
