-- Which message granted a token.
use Rattle.std.specs.Prelude.{◌≡◌, ℕ, List, [], ◌∷◌, ◌++◌}
use Rattle.rs_path.specs.Logs.{own}
use Rattle.rs_scope.specs.declared.scope.Scope.{Scope}
use Rattle.rs_scope.specs.Tokens.{bytes_of_words}
use Rattle.rs_record.specs.declared.records.Record.{Record}
use Rattle.rs_rules.specs.Histories.{History}
use Rattle.rs_grant.specs.declared.ask.Ask.{Ask}
use Rattle.rs_exchange.specs.declared.asked.Asked.{Asked}
use Rattle.rs_exchange.specs.declared.asked.Asked.TheVariants.{Consent}
use Rattle.rs_front.specs.Due.{Outcome, answered, drew}

-- of the entries made under this number, the later history has just one more, with this record
abbrev pub AddsOne : ℕ → History → History → Record → Type 0
AddsOne me old new what = own me new.entries ≡ own me old.entries ++ record { who = me; what = what } ∷ []

-- a consent of the user was asked for, with these scopes, and the token is that of the two words that were drawn for it
pub record IsGrantOf (asked : Asked) (user : ℕ) (token : List ℕ) (scopes : List Scope) (outcome : Outcome) : Type 0 where
  pub ask : Ask
  pub consent : asked ≡ Consent user ask
  pub scopes_are : scopes ≡ ask.scopes
  pub first : ℕ
  pub second : ℕ
  pub front : ℕ
  pub drawn : outcome ≡ drew first second (answered front)
  pub token_is : token ≡ bytes_of_words first second
