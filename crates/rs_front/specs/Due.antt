-- What a connection writes: the due bytes of its messages, by their outcomes.
use Rattle.std.specs.Prelude.{◌≡◌, ◌≢◌, ℕ, ◌+◌, ◌^◌, ◌-◌, ◌≤◌, min, Bool, true, false, List, [], ◌∷◌, ◌++◌, length, Option, Some, None, option_map, count_by, if◌then◌else◌}
use Rattle.std.specs.List.{flat_map}
use Rattle.std.specs.Io.KnownBytes.{prepend_known}
use Rattle.rs_face.specs.Courses.{Course}
use Rattle.rs_scope.specs.Tokens.{bytes_of_words}
use Rattle.rs_rules.specs.declared.request.Request.{Request}
use Rattle.rs_rules.specs.declared.request.Request.TheVariants.{Grant}
use Rattle.rs_grant.specs.declared.ask.Ask.{Ask}
use Rattle.rs_grant.specs.declared.outcome.Outcome.TheVariants.{Token}
use Rattle.rs_rules.specs.declared.reply.Reply.TheVariants.{StoreFailed, Granted}
use Rattle.rs_rules.specs.Histories.{History, len, up_to}
use Rattle.rs_rules.specs.Answers.{answer}
use Rattle.rs_rules.specs.Growth.{Grows, AddsNothing}
use Rattle.rs_request.specs.declared.message.RequestMessage.{RequestMessage}
use Rattle.rs_request.specs.Laws.{awaits}
use Rattle.rs_exchange.specs.declared.account.Config.{Config}
use Rattle.rs_exchange.specs.declared.answer.Answer.{Answer}
use Rattle.rs_exchange.specs.declared.answer.Answer.TheVariants.{Decided}
use Rattle.rs_exchange.specs.declared.asked.Asked.{Asked}
use Rattle.rs_exchange.specs.declared.asked.Asked.TheVariants as asked
use Rattle.rs_exchange.specs.declared.manner.Manner.{Manner}
use Rattle.rs_exchange.specs.Requests.{asked_of}
use Rattle.rs_exchange.specs.FixedReplies.{starved_bytes, interim_bytes}
use Rattle.rs_exchange.specs.Grants.{sent_back, not_granted}
use Rattle.rs_exchange.specs.Manners.{manner_of}
use Rattle.rs_exchange.specs.Replies.{reply_bytes}

-- the users of a desk by number: the history of each, its quota, the number that the desk asks under, and whether nobody else
-- asks
pub record Users : Type 0 where
  pub history : ℕ → History
  pub quota : ℕ → ℕ
  pub me : ℕ → ℕ
  pub alone : Bool

-- the users of a desk, by what its trait says that it tells, where they have these histories
abbrev pub users_of_desk : {D : Type 0} → (D → ℕ → ℕ) → (D → ℕ → ℕ) → (D → Bool) → D → (ℕ → History) → Users
users_of_desk quota me alone desk history = record { history = history; quota = quota desk; me = me desk; alone = alone desk }

-- what became of a message: the desk answered on its user's history as it was at this length; the record couldn't be kept;
-- no desk was asked, and the message says what is answered; memory was wanted, and nothing was taken; for a grant these two
-- words were drawn, and this became of it; or these were, fewer than two, and then the entropy failed
pub data Outcome : Type 0 where
  answered : ℕ → Outcome
  unkept plain starved : Outcome
  drew : ℕ → ℕ → Outcome → Outcome
  undrawn : List ℕ → Outcome

-- ---- one message

-- what is asked of a desk for a consent to what an app asked for: that the token has the scopes that were asked for
abbrev pub request_of : Ask → List ℕ → Request
request_of ask token = Grant token ask.scopes

-- the desk granted the token
abbrev pub is_granted : Answer → Bool
is_granted (Decided Granted) = true
is_granted other = false

-- what the app is told, by what the desk answers
abbrev pub app_told : Ask → List ℕ → Answer → Answer
app_told ask token answer = if is_granted answer then sent_back ask (Token token) else not_granted ask

-- what is answered, or None for want of memory; an outcome that isn't the message's gives None too
abbrev pub answer_of : Users → Asked → Outcome → Option Answer
answer_of users (asked.Desk user r) (answered n) = Some (Decided (answer (up_to n (users.history user)) (users.quota user) r))
answer_of users (asked.Desk user r) unkept = Some (Decided StoreFailed)
answer_of users (asked.Desk user r) plain = None
answer_of users (asked.Desk user r) starved = None
answer_of users (asked.Desk user r) (drew first second outcome) = None
answer_of users (asked.Desk user r) (undrawn words) = None
answer_of users (asked.Now answer) plain = Some answer
answer_of users (asked.Now answer) other = None
answer_of users (asked.Consent user ask) (drew first second outcome) =
    let token = bytes_of_words first second in option_map (app_told ask token) (answer_of users (asked.Desk user (request_of ask token)) outcome)
answer_of users (asked.Consent user ask) (undrawn words) = Some (not_granted ask)
answer_of users (asked.Consent user ask) other = None

-- the reply, which is the fixed one where memory was wanted
abbrev pub answer_bytes : Manner → Option Answer → List ℕ
answer_bytes manner None = starved_bytes manner.closing
answer_bytes manner (Some answer) = reply_bytes manner answer

-- the interim reply, where the message asks for it (RFC 9110, section 10.1.1)
abbrev pub interim_of : RequestMessage → List ℕ
interim_of m = if awaits m then interim_bytes else []

-- what is written of a message after so many others
abbrev pub message_bytes : Users → Config → ℕ → RequestMessage → Outcome → List ℕ
message_bytes users config count m outcome =
    interim_of m ++ answer_bytes (manner_of count m) (answer_of users (asked_of config m) outcome)

-- ---- all messages

-- what is written of the messages, one after another, where so many stand before them
abbrev pub due : Users → Config → ℕ → List RequestMessage → List Outcome → List ℕ
due users config count [] outcomes = []
due users config count (m ∷ ms) [] = []
due users config count (m ∷ ms) (outcome ∷ outcomes) =
    message_bytes users config count m outcome ++ due users config (count + 1) ms outcomes

-- ---- histories

-- the users but this one have the histories that they had
abbrev pub OthersStay : ℕ → (ℕ → History) → (ℕ → History) → Type 0
OthersStay user old new = (other : ℕ) → other ≢ user → new other ≡ old other

-- all users have the histories that they had
abbrev pub AllStay : (ℕ → History) → (ℕ → History) → Type 0
AllStay old new = (user : ℕ) → new user ≡ old user

-- over a message with this outcome the histories went on so. A message that wasn't answered has taken nothing; where nobody
-- else asks, an answer is given on the whole history. A grant for which words were drawn is that of their token
abbrev pub GoesOn : Users → Asked → Outcome → (ℕ → History) → (ℕ → History) → Type 0
GoesOn users (asked.Desk user r) (answered n) old new =
    Grows (old user) (new user) (users.quota user) (users.me user) r (answer (up_to n (new user)) (users.quota user) r) n
    × (users.alone ≡ true → n ≡ len (old user)) × OthersStay user old new
GoesOn users (asked.Desk user r) unkept old new = AddsNothing (old user) (new user) (users.me user) users.alone × OthersStay user old new
GoesOn users (asked.Desk user r) plain old new = ⊥
GoesOn users (asked.Desk user r) starved old new = AddsNothing (old user) (new user) (users.me user) users.alone × OthersStay user old new
GoesOn users (asked.Desk user r) (drew first second outcome) old new = ⊥
GoesOn users (asked.Desk user r) (undrawn words) old new = ⊥
GoesOn users (asked.Now answer) (answered n) old new = ⊥
GoesOn users (asked.Now answer) unkept old new = ⊥
GoesOn users (asked.Now answer) plain old new = AllStay old new
GoesOn users (asked.Now answer) starved old new = AllStay old new
GoesOn users (asked.Now answer) (drew first second outcome) old new = ⊥
GoesOn users (asked.Now answer) (undrawn words) old new = ⊥
GoesOn users (asked.Consent user ask) (answered n) old new = ⊥
GoesOn users (asked.Consent user ask) unkept old new = ⊥
GoesOn users (asked.Consent user ask) plain old new = ⊥
GoesOn users (asked.Consent user ask) starved old new = AllStay old new
GoesOn users (asked.Consent user ask) (drew first second outcome) old new =
    GoesOn users (asked.Desk user (request_of ask (bytes_of_words first second))) outcome old new
GoesOn users (asked.Consent user ask) (undrawn words) old new = AllStay old new × (length words ≤ 1)

-- over messages with these outcomes, each on from the last; there are as many outcomes as messages
abbrev pub GoesAlong : Users → Config → List RequestMessage → List Outcome → (ℕ → History) → (ℕ → History) → Type 0
GoesAlong users config [] [] old new = AllStay old new
GoesAlong users config [] (outcome ∷ outcomes) old new = ⊥
GoesAlong users config (m ∷ ms) [] old new = ⊥
GoesAlong users config (m ∷ ms) (outcome ∷ outcomes) old new =
    (middle : ℕ → History) × GoesOn users (asked_of config m) outcome old middle × GoesAlong users config ms outcomes middle new

-- the record couldn't be kept
abbrev pub is_unkept : Outcome → Bool
is_unkept (answered n) = false
is_unkept unkept = true
is_unkept plain = false
is_unkept starved = false
is_unkept (drew first second outcome) = is_unkept outcome
is_unkept (undrawn words) = false

-- the count of the keepers' faults rose as often as a record couldn't be kept, or came to its greatest value
abbrev pub HasFaults : List Outcome → ℕ → ℕ → Type 0
HasFaults outcomes before now = min (before + count_by is_unkept outcomes) (2 ^ 64 - 1) ≤ now

-- the words that were drawn for a message
abbrev pub words_of : Outcome → List ℕ
words_of (drew first second outcome) = first ∷ second ∷ []
words_of (undrawn words) = words
words_of other = []

-- and for all messages
abbrev pub drawn_of : List Outcome → List ℕ
drawn_of outcomes = flat_map words_of outcomes

-- the entropy failed
abbrev pub is_undrawn : Outcome → Bool
is_undrawn (undrawn words) = true
is_undrawn other = false

-- the entropy gave just the words that were drawn, and its count of faults rose as often as it failed, or came to its greatest
-- value
pub record Draws (outcomes : List Outcome) (entropy : Course (List ℕ)) : Type 0 where
  pub words : entropy.old ≡ prepend_known (drawn_of outcomes) entropy.new
  pub failed : min (entropy.before + count_by is_undrawn outcomes) (2 ^ 64 - 1) ≤ entropy.now

-- nothing failed: the record was kept, words were drawn where they were wanted, and no memory was wanted
abbrev pub is_whole : Outcome → Bool
is_whole (answered n) = true
is_whole unkept = false
is_whole plain = true
is_whole starved = false
is_whole (drew first second outcome) = is_whole outcome
is_whole (undrawn words) = false
