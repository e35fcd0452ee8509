-- What a connection reads and writes, and how it ends.
use Rattle.std.specs.Prelude.{◌≡◌, ℕ, ◌<◌, ◌≤◌, ◌⊎◌, ⊤, Bool, true, false, List, [], ◌∷◌, ◌++◌, length, take, Ok}
use Rattle.std.specs.Io.KnownBytes.{Consumes, Appends, IsAtEnd}
use Rattle.rs_rules.specs.Histories.{History}
use Rattle.rs_request.specs.declared.fault.WireFault.{WireFault}
use Rattle.rs_request.specs.declared.message.RequestMessage.{RequestMessage}
use Rattle.rs_request.specs.Division.{Divides}
use Rattle.rs_request.specs.Laws.{fed_at}
use Rattle.rs_request.specs.Readings.{more, finish_of}
use Rattle.rs_exchange.specs.declared.account.Config.{Config}
use Rattle.rs_front.specs.declared.serve.End.{End}
use Rattle.rs_front.specs.declared.serve.End.TheVariants.{Closed, Limit, ReadFault, WriteFault, NoMemory, BadMessage}
use Rattle.rs_face.specs.Courses.{Course, HasFailed}
use Rattle.rs_front.specs.Due.{Users, Outcome, answer_of, answer_bytes, interim_of, due, GoesAlong, HasFaults, Draws}
use Rattle.rs_exchange.specs.FixedReplies.{fault_bytes, starved_bytes}
use Rattle.rs_exchange.specs.Manners.{max_replies, manner_of}
use Rattle.rs_exchange.specs.Requests.{asked_of}
use Rattle.rs_front.specs.Inputs.{read_size, IsLazy}
use Rattle.rs_front.specs.Rests.{after_last, pending, HasFault}

-- ---- what was served

-- the last message asks to close
abbrev pub closes : List RequestMessage → Bool
closes [] = false
closes (m ∷ []) = m.close
closes (m ∷ n ∷ ms) = closes (n ∷ ms)

-- no message but the last asks to close
abbrev pub IsOpen : List RequestMessage → Type 0
IsOpen [] = ⊤
IsOpen (m ∷ []) = ⊤
IsOpen (m ∷ n ∷ ms) = (m.close ≡ false) × IsOpen (n ∷ ms)

-- a front of these bytes was written
abbrev pub IsPrefixOf : List ℕ → List ℕ → Type 0
IsPrefixOf wrote bytes = (count : ℕ) × (wrote ≡ take count bytes)

-- what was read and written up to the end of a connection: the bytes read are these messages, not more than are served, and
-- then the rest; each message has an outcome, and the histories went on by them; the entropy gave the words that were drawn
pub record Served (users : Users) (config : Config) (source sink entropy : Course (List ℕ)) (old : ℕ → History) (before now : ℕ) : Type 0 where
  pub read : List ℕ
  pub wrote : List ℕ
  pub messages : List RequestMessage
  pub outcomes : List Outcome
  pub place : ℕ
  pub rest : List ℕ
  pub consumed : Consumes source.old source.new read
  pub appended : Appends sink.old sink.new wrote
  pub division : Divides 0 read messages place rest
  pub along : GoesAlong users config messages outcomes old users.history
  pub unkept : HasFaults outcomes before now
  pub drawn : Draws outcomes entropy
  pub few : length messages ≤ max_replies
  pub open_so_far : IsOpen messages

-- the interim reply to a message that didn't come whole was written, where it was due, or wasn't yet
abbrev pub IsInterimSoFar : ℕ → List ℕ → List ℕ → Type 0
IsInterimSoFar place rest wrote = (wrote ≡ []) ⊎ (wrote ≡ pending place rest)

-- the bytes that are due of the messages
abbrev pub due_of : {users : Users} {config : Config} {source sink entropy : Course (List ℕ)} {old : ℕ → History} {before now : ℕ}
    → Served users config source sink entropy old before now → List ℕ
due_of {users} {config} served = due users config 0 served.messages served.outcomes

-- the connection goes on behind the messages
abbrev pub GoesFurther : List RequestMessage → Type 0
GoesFurther ms = (length ms < max_replies) × (closes ms ≡ false)

-- behind the last message there is no more than came with its end: fewer bytes than one read gives
abbrev pub IsReadShortly : {users : Users} {config : Config} {source sink entropy : Course (List ℕ)} {old : ℕ → History} {before now : ℕ}
    → Served users config source sink entropy old before now → Type 0
IsReadShortly served = length served.rest < read_size

-- the last reply was cut off: all that is due of the messages before was written, then the last one's interim reply, and a front
-- of its reply
pub record IsCutInReply {users : Users} {config : Config} {source sink entropy : Course (List ℕ)} {old : ℕ → History} {before now : ℕ}
    (served : Served users config source sink entropy old before now) : Type 0 where
  pub messages : List RequestMessage
  pub outcomes : List Outcome
  pub last : RequestMessage
  pub outcome : Outcome
  pub front : List ℕ
  pub all : served.messages ≡ messages ++ last ∷ []
  pub each : served.outcomes ≡ outcomes ++ outcome ∷ []
  pub wrote : served.wrote ≡ due users config 0 messages outcomes ++ (interim_of last ++ front)
  pub part : IsPrefixOf front (answer_bytes (manner_of (length messages) last) (answer_of users (asked_of config last) outcome))
  pub shortly : IsReadShortly served

-- what was written behind all replies to messages, where it was cut off: a front of the interim reply, which was due as soon as
-- the head was whole; or of the reply to a fault, behind that; or of the fixed reply that closes, behind that where reading
-- wanted memory after it
abbrev pub IsCutTail : Course (List ℕ) → ℕ → List ℕ → List ℕ → Type 0
IsCutTail source place rest wrote =
    (IsLazy place false rest × IsPrefixOf wrote (pending place rest))
    ⊎ ((f : WireFault) × HasFault source.new place rest f × (front : List ℕ) × (wrote ≡ pending place rest ++ front) × IsPrefixOf front (fault_bytes f.why))
    ⊎ ((first front : List ℕ) × IsInterimSoFar place rest first × (wrote ≡ first ++ front) × IsPrefixOf front (starved_bytes true))

-- all that is due of the messages was written, and then something that was cut off
pub record IsCutBehind {users : Users} {config : Config} {source sink entropy : Course (List ℕ)} {old : ℕ → History} {before now : ℕ}
    (served : Served users config source sink entropy old before now) : Type 0 where
  pub front : List ℕ
  pub further : GoesFurther served.messages
  pub wrote : served.wrote ≡ due_of served ++ front
  pub tail : IsCutTail source served.place served.rest front

-- the sink stopped in a reply, or behind them
abbrev pub IsCut : {users : Users} {config : Config} {source sink entropy : Course (List ℕ)} {old : ℕ → History} {before now : ℕ}
    → Served users config source sink entropy old before now → Type 0
IsCut served = IsCutInReply served ⊎ IsCutBehind served

-- reading wanted memory, and the fixed reply that closes was written
pub record IsStarved {users : Users} {config : Config} {source sink entropy : Course (List ℕ)} {old : ℕ → History} {before now : ℕ}
    (served : Served users config source sink entropy old before now) : Type 0 where
  pub first : List ℕ
  pub further : GoesFurther served.messages
  pub so_far : IsInterimSoFar served.place served.rest first
  pub wrote : served.wrote ≡ due_of served ++ (first ++ starved_bytes true)

-- what each end says; the counts of the sink's wants of memory stand apart from those of its faults
abbrev pub EndsSo : (users : Users) (config : Config) (source sink wants entropy : Course (List ℕ)) (old : ℕ → History) (before now : ℕ)
    → Served users config source sink entropy old before now → End → Type 0
EndsSo users config source sink wants entropy old before now served Closed =
    (served.wrote ≡ due_of served)
    × (((closes served.messages ≡ true) × IsReadShortly served)
    ⊎ (GoesFurther served.messages × IsAtEnd source.new × (after_last served.place served.rest ≡ more)
    × (finish_of (fed_at served.place served.rest true) ≡ Ok tt)))
EndsSo users config source sink wants entropy old before now served Limit =
    (length served.messages ≡ max_replies) × (closes served.messages ≡ false) × (served.wrote ≡ due_of served) × IsReadShortly served
EndsSo users config source sink wants entropy old before now served ReadFault =
    HasFailed source × GoesFurther served.messages × (after_last served.place served.rest ≡ more)
    × (served.wrote ≡ due_of served ++ pending served.place served.rest)
EndsSo users config source sink wants entropy old before now served WriteFault = HasFailed sink × IsCut served
EndsSo users config source sink wants entropy old before now served NoMemory = IsStarved served ⊎ (HasFailed wants × IsCut served)
EndsSo users config source sink wants entropy old before now served (BadMessage f) =
    GoesFurther served.messages × HasFault source.new served.place served.rest f
    × (served.wrote ≡ due_of served ++ (pending served.place served.rest ++ fault_bytes f.why))

-- a connection over a desk whose users had these histories and then have those
abbrev pub Serves : Users → Config → Course (List ℕ) → Course (List ℕ) → Course (List ℕ) → Course (List ℕ) → (ℕ → History) → ℕ → ℕ → End → Type 0
Serves users config source sink wants entropy old before now end =
    (served : Served users config source sink entropy old before now) × EndsSo users config source sink wants entropy old before now served end
