-- What a link tells of the server behind it, and what a carried request leaves of that (own).
use Rattle.std.specs.Prelude.{◌≡◌, ◌⊎◌, ⊤, ℕ, ◌+◌, ◌≤◌, Bool, true, ◌&&◌, nat_lt, List, [], ◌∷◌, ◌++◌, length, codes, All, Option, Some, None, Result, Ok, Err, IsTrue}
use Rattle.std.specs.List.{list_all}
use Rattle.rs_path.specs.Limits.{max_body}
use Rattle.rs_path.specs.Users.{is_user}
use Rattle.rs_path.specs.declared.log_entry.LogEntry.{LogEntry}
use Rattle.rs_face.specs.Causes.{Rose}
use Rattle.rs_record.specs.declared.records.Record.{Record}
use Rattle.rs_record.specs.Records.{is_record}
use Rattle.rs_request.specs.Limits.{max_target}
use Rattle.rs_rules.specs.Answers.{answer, taken}
use Rattle.rs_rules.specs.Histories.{History, empty_base, len, with_entry, IsFront}
use Rattle.rs_rules.specs.Lawful.{IsLawful}
use Rattle.rs_talk.specs.declared.answer.Answer.{Answer}
use Rattle.rs_talk.specs.declared.answer.Answer.TheVariants.{Status}
use Rattle.rs_talk.specs.declared.ask.Ask.{Ask}
use Rattle.rs_talk.specs.declared.link_fault.LinkFault.{LinkFault}
use Rattle.rs_talk.specs.AnswerReadings.{answer_reading}
use Rattle.rs_talk.specs.AskRequests.{IsAsking, request_asked, record_asked}
use Rattle.rs_talk.specs.Asks.{ask_target, ask_body, ask_text}
use Rattle.rs_talk.specs.Carried.{IsLookUp}
use Rattle.rs_talk.specs.ReplyAnswers.{answer_given}
use Rattle.rs_talk.specs.Roots.{Root, IsRoot}

-- the root of the account and its quota in bytes; its history; and of that the numbers of the entries that requests took as
-- the link carried them, in their order. What a request took that was replayed is none of them
pub record Tale : Type 0 where
  pub root : Root
  pub quota : ℕ
  pub history : History
  pub own : List ℕ

-- each number is greater than those before it
abbrev pub are_rising : List ℕ → Bool
are_rising [] = true
are_rising (n ∷ ns) = list_all (λ m. nat_lt n m) ns && are_rising ns

-- what is true of every tale: the root is that of a user, nothing of the history was given up, each record stands rightly and
-- is what its type promises, and the own numbers are numbers of entries
pub record IsTale (tale : Tale) : Type 0 where
  pub root : IsRoot tale.root
  pub user : (name : List ℕ) × (is_user name ≡ true) × (tale.root.path ≡ codes "/storage/" ++ name)
  pub whole : tale.history.base ≡ empty_base
  pub lawful : IsLawful tale.history
  pub records : All (λ (e : LogEntry Record). IsTrue (is_record e.what)) tale.history.entries
  pub rising : are_rising tale.own ≡ true
  pub entries : All (λ n. (1 ≤ n) × (n ≤ len tale.history)) tale.own

-- ---- what a request takes

-- an entry with this record came, after what the first tale tells, and its number is own
pub record TakesOwn (old now : Tale) (what : Record) (before : History) : Type 0 where
  pub who : ℕ
  pub since : IsFront old.history before
  pub entry : IsFront (with_entry before (record { who = who; what = what })) now.history
  pub own : now.own ≡ old.own ++ (len before + 1) ∷ []

-- no number more is own, or that of an entry with the record that is brought
abbrev pub OwnOf : Tale → Tale → Option Record → Type 0
OwnOf old now None = now.own ≡ old.own
OwnOf old now (Some what) = (now.own ≡ old.own) ⊎ ((before : History) × TakesOwn old now what before)

-- a request was carried, whatever came of it: the tale goes on. At most one number more is own, of an entry that came since
-- then; where an ask below the root was carried, it is an entry with the ask's record; a look-up takes none
pub record Carries (old now : Tale) (request : List ℕ) : Type 0 where
  pub root : now.root ≡ old.root
  pub quota : now.quota ≡ old.quota
  pub front : IsFront old.history now.history
  pub own : (now.own ≡ old.own) ⊎ ((what : Record) × (before : History) × TakesOwn old now what before)
  pub asked : (token : List ℕ) (ask : Ask) → IsAsking old.root token ask → request ≡ ask_text old.root token ask
      → OwnOf old now (record_asked token ask)
  pub looked : IsLookUp request → now.own ≡ old.own

-- ---- what it is answered

-- what was taken at this point: nothing, or the next entry, whose number is own
abbrev pub TakesAt : Tale → Tale → History → Option Record → Type 0
TakesAt old now past None = now.own ≡ old.own
TakesAt old now past (Some what) = TakesOwn old now what past

-- the answer is that of the history as it was at a point since then
pub record AnswersAt (old now : Tale) (token : List ℕ) (ask : Ask) (told : Answer) : Type 0 where
  pub past : History
  pub since : IsFront old.history past
  pub until : IsFront past now.history
  pub answered : told ≡ answer_given ask (answer past old.quota (request_asked token ask))
  pub takes : TakesAt old now past (taken past old.quota (request_asked token ask))

-- the request was longer than the server reads: its target (414, or 431 for the whole head), or its body (413)
abbrev pub IsTooLong : Root → Ask → Answer → Type 0
IsTooLong root ask told =
    ((nat_lt max_target (length (ask_target root ask)) ≡ true) × ((told ≡ Status 414) ⊎ (told ≡ Status 431)))
    ⊎ ((nat_lt max_body (length (ask_body ask)) ≡ true) × (told ≡ Status 413))

-- nothing was taken: the server had no memory, or couldn't keep the record and the link counts a fault, or the request was
-- too long
pub record TurnsAway (old now : Tale) (ask : Ask) (told : Answer) (before after : ℕ) : Type 0 where
  pub own : now.own ≡ old.own
  pub cause : (told ≡ Status 503) ⊎ (((told ≡ Status 500) × Rose before after) ⊎ IsTooLong old.root ask told)

-- the reply is read as an answer, and it is that of the history, or one that turns the request away
pub record Answers (old now : Tale) (token : List ℕ) (ask : Ask) (reply : List ℕ) (before after : ℕ) : Type 0 where
  pub told : Answer
  pub read : answer_reading ask reply ≡ Ok told
  pub outcome : AnswersAt old now token ask told ⊎ TurnsAway old now ask told before after

-- after a fault nothing is said of the reply; otherwise it answers each ask below the root that was carried
abbrev pub AnswersAll : Tale → Tale → List ℕ → Result Unit LinkFault → List ℕ → ℕ → ℕ → Type 0
AnswersAll old now request (Err fault) reply before after = ⊤
AnswersAll old now request (Ok done) reply before after = (token : List ℕ) (ask : Ask) → IsAsking old.root token ask
    → request ≡ ask_text old.root token ask → Answers old now token ask reply before after

-- ---- told or untold

-- what a carried request, its result and its reply leave of a tale, over the count of faults before and after it: a link
-- that tells goes on telling, and one that doesn't goes on not to
abbrev pub Tells : Option Tale → Option Tale → List ℕ → Result Unit LinkFault → List ℕ → ℕ → ℕ → Type 0
Tells None None request result reply before after = ⊤
Tells None (Some now) request result reply before after = ⊥
Tells (Some old) None request result reply before after = ⊥
Tells (Some old) (Some now) request result reply before after =
    Carries old now request × AnswersAll old now request result reply before after
