-- A message decided: what its outcome is.
use Rattle.std.specs.Prelude.{◌≡◌, ℕ, List, [], ◌∷◌, ◌++◌, Option, Some, None, option_map, Result, Ok, Err}
use Rattle.rs_face.specs.Courses.{Course, Writes}
use Rattle.rs_grant.specs.declared.ask.Ask.{Ask}
use Rattle.rs_rules.specs.Histories.{History}
use Rattle.rs_request.specs.declared.message.RequestMessage.{RequestMessage}
use Rattle.rs_exchange.specs.declared.account.Config.{Config}
use Rattle.rs_exchange.specs.declared.answer.Answer.{Answer}
use Rattle.rs_exchange.specs.declared.asked.Asked.{Asked}
use Rattle.rs_exchange.specs.declared.asked.Asked.TheVariants.{Desk}
use Rattle.rs_exchange.specs.declared.manner.Manner.{Manner}
use Rattle.rs_exchange.specs.declared.reply.Written.{Written}
use Rattle.rs_exchange.specs.Manners.{manner_of}
use Rattle.rs_exchange.specs.Requests.{asked_of}
use Rattle.rs_front.specs.Due.{Users, Outcome, request_of, app_told, answer_of, answer_bytes, GoesOn, HasFaults, Draws}

-- the outcome has this answer, or memory was wanted
abbrev pub IsAnswer : {E : Type 0} → Users → Asked → Outcome → Result Answer E → Type 0
IsAnswer users asked outcome (Ok answer) = answer_of users asked outcome ≡ Some answer
IsAnswer users asked outcome (Err e) = answer_of users asked outcome ≡ None

-- what was asked has an outcome, by which the histories went on from the old ones to those of the users
pub record Decides {E : Type 0} (users : Users) (asked : Asked) (old : ℕ → History) (before now : ℕ) (result : Result Answer E) : Type 0 where
  pub outcome : Outcome
  pub goes_on : GoesOn users asked outcome old users.history
  pub unkept : HasFaults (outcome ∷ []) before now
  pub answer : IsAnswer users asked outcome result

-- the bytes of the reply are those that the outcome gives, or memory was wanted
abbrev pub IsReplyMade : {E : Type 0} → Users → Manner → Asked → Outcome → Result Written E → Type 0
IsReplyMade users manner asked outcome (Ok written) = written.head.items ++ written.body ≡ answer_bytes manner (answer_of users asked outcome)
IsReplyMade users manner asked outcome (Err e) = answer_of users asked outcome ≡ None

-- what was asked has an outcome, by which the histories went on from the old ones to those of the users, and whose bytes were made
pub record Settles {E : Type 0} (users : Users) (manner : Manner) (asked : Asked) (old : ℕ → History) (before now : ℕ) (result : Result Written E) : Type 0 where
  pub outcome : Outcome
  pub goes_on : GoesOn users asked outcome old users.history
  pub unkept : HasFaults (outcome ∷ []) before now
  pub written : IsReplyMade users manner asked outcome result

-- the bytes of the reply are those that the app is told of this outcome of asking that the token has the scopes, or memory was wanted
abbrev pub IsTold : {E : Type 0} → Users → Manner → ℕ → Ask → List ℕ → Outcome → Result Written E → Type 0
IsTold users manner user ask token outcome (Ok written) =
    written.head.items ++ written.body ≡ answer_bytes manner (option_map (app_told ask token) (answer_of users (Desk user (request_of ask token)) outcome))
IsTold users manner user ask token outcome (Err e) = answer_of users (Desk user (request_of ask token)) outcome ≡ None

-- a desk was asked that the token has the scopes, and what the app is told was made
pub record AsksGrant {E : Type 0} (users : Users) (manner : Manner) (user : ℕ) (ask : Ask) (token : List ℕ) (old : ℕ → History) (before now : ℕ) (result : Result Written E) : Type 0 where
  pub outcome : Outcome
  pub goes_on : GoesOn users (Desk user (request_of ask token)) outcome old users.history
  pub unkept : HasFaults (outcome ∷ []) before now
  pub told : IsTold users manner user ask token outcome result

-- the same, where the outcome's words were drawn
pub record SettlesDrawn {E : Type 0} (users : Users) (manner : Manner) (asked : Asked) (old : ℕ → History) (before now : ℕ) (entropy : Course (List ℕ)) (result : Result Written E) : Type 0 where
  pub settles : Settles {E = E} users manner asked old before now result
  pub drawn : Draws (settles.outcome ∷ []) entropy

-- the reply was written that the outcome gives, after so many others, or a front of it where the sink failed or couldn't grow
pub record RepliesTo {A E : Type 0} (users : Users) (config : Config) (count : ℕ) (m : RequestMessage) (old : ℕ → History)
    (before now : ℕ) (entropy sink : Course (List ℕ)) (result : Result A E) : Type 0 where
  pub outcome : Outcome
  pub goes_on : GoesOn users (asked_of config m) outcome old users.history
  pub unkept : HasFaults (outcome ∷ []) before now
  pub drawn : Draws (outcome ∷ []) entropy
  pub writes : Writes sink (answer_bytes (manner_of count m) (answer_of users (asked_of config m) outcome)) result
