-- What is known of what a message asks.
use Rattle.std.specs.Prelude.{◌≡◌, ℕ, ⊤, true, List, Some, Ok, slice_get}
use Rattle.rs_rules.specs.declared.call.Call.{Call}
use Rattle.rs_rules.specs.declared.request.Request.{Request}
use Rattle.rs_rules.specs.declared.request.Request.TheVariants.{Store}
use Rattle.rs_rules.specs.Requests.{is_within_limit}
use Rattle.rs_grant.specs.declared.ask.Ask.{Ask}
use Rattle.rs_grant.specs.declared.choice.Choice.TheVariants.{Allow}
use Rattle.rs_grant.specs.Consents.{consent_reading}
use Rattle.rs_exchange.specs.declared.account.Account.{Account}
use Rattle.rs_exchange.specs.declared.account.Config.{Config}
use Rattle.rs_exchange.specs.declared.verb.Verb.{Verb}
use Rattle.rs_exchange.specs.declared.verb.Verb.TheVariants.{Post}
use Rattle.rs_exchange.specs.Grants.{fits_account}
use Rattle.rs_exchange.specs.Targets.{Target, Grant}
use Rattle.rs_exchange.specs.declared.asked.Asked.{Asked}
use Rattle.rs_exchange.specs.declared.asked.Asked.TheVariants.{Desk, Now, Consent}

-- the user that is asked is one of these
abbrev pub AsksOf : (ℕ → Type 0) → Asked → Type 0
AsksOf is_one (Desk user r) = is_one user
AsksOf is_one (Now answer) = ⊤
AsksOf is_one (Consent user ask) = is_one user

-- the body that a Put brings is within the limit
abbrev pub AsksShort : Asked → Type 0
AsksShort (Desk user r) = is_within_limit r ≡ true
AsksShort (Now answer) = ⊤
AsksShort (Consent user ask) = ⊤

-- a request on a document or a folder
abbrev pub IsStore : Request → Type 0
IsStore r = (call : Call) × (r ≡ Store call)

-- a grant that the user with this number allowed: by a POST to where this user grants access, of a form that is read as what is
-- asked with a password, which is the user's
pub record IsAllowed (config : Config) (v : Verb) (t : Target) (body : List ℕ) (user : ℕ) (ask : Ask) : Type 0 where
  pub verb : v ≡ Post
  pub query : List ℕ
  pub target : t ≡ Grant user query
  pub account : Account
  pub there : slice_get config.accounts user ≡ Some account
  pub password : List ℕ
  pub read : consent_reading body ≡ Ok (ask, Allow (Some password))
  pub fits : fits_account account password ≡ true
