-- How a form is read as the user's consent: what is asked, and what the user chose.
use Rattle.std.specs.Prelude.{◌≡◌, ℕ, List, [], ◌∷◌, ◌++◌, Option, Some, None, Result, Ok, Err, IfSome, IsUtf8, codes, if◌then◌else◌}
use Rattle.std.specs.Str.{bytes_eq}
use Rattle.rs_form.specs.Fields.{form_fields, values_among, one_value}
use Rattle.rs_grant.specs.declared.ask.Ask.{Ask}
use Rattle.rs_grant.specs.declared.choice.Choice.{Choice}
use Rattle.rs_grant.specs.declared.choice.Choice.TheVariants.{Allow, Deny, Other}
use Rattle.rs_grant.specs.declared.grant_fault.GrantFault.{GrantFault}
use Rattle.rs_grant.specs.declared.grant_fault.GrantFault.TheVariants.{BadRedirect, Word, NoMemory}
use Rattle.rs_grant.specs.Asks.{ask_reading, ask_fields, IsAddress, IsAsk}
use Rattle.rs_grant.specs.Redirects.{state_fields}

-- the choice of a value of `choice` that stands once, with the password that stands once
abbrev pub choice_of : Option (List ℕ) → Option (List ℕ) → Choice
choice_of None password = Other
choice_of (Some text) password = if bytes_eq text (codes "deny") then Deny
    else if bytes_eq text (codes "allow") then Allow password else Other

-- the choice of these fields
abbrev pub choice_among : List (List ℕ × List ℕ) → Choice
choice_among fields = choice_of (one_value (values_among (codes "choice") fields)) (one_value (values_among (codes "password") fields))

abbrev pub choice_reading : List ℕ → Choice
choice_reading body = choice_among (form_fields body)

abbrev pub with_choice : Result Ask GrantFault → Choice → Result (Ask × Choice) GrantFault
with_choice (Ok ask) choice = Ok (ask, choice)
with_choice (Err fault) choice = Err fault

abbrev pub consent_reading : List ℕ → Result (Ask × Choice) GrantFault
consent_reading body = with_choice (ask_reading body) (choice_reading body)

-- the call read this, or memory ran out
abbrev pub ReadsConsent : Result (Ask × Choice) GrantFault → Result (Ask × Choice) GrantFault → Type 0
ReadsConsent (Ok consent) wanted = wanted ≡ Ok consent
ReadsConsent (Err BadRedirect) wanted = wanted ≡ Err BadRedirect
ReadsConsent (Err (Word word redirect state)) wanted = wanted ≡ Err (Word word redirect state)
ReadsConsent (Err NoMemory) wanted = Unit {0}

-- what was read can be answered, as with a query
abbrev pub CanAnswerConsent : Result (Ask × Choice) GrantFault → Type 0
CanAnswerConsent (Ok consent) = IsAsk consent.0
CanAnswerConsent (Err BadRedirect) = Unit {0}
CanAnswerConsent (Err (Word word redirect state)) = IsAddress redirect × IfSome state IsUtf8
CanAnswerConsent (Err NoMemory) = Unit {0}

-- the password and the choice, as the form of a page sends them
abbrev pub choice_fields : List ℕ → List ℕ → List (List ℕ × List ℕ)
choice_fields password choice = (codes "password", password) ∷ (codes "choice", choice) ∷ []

-- what the form of a page sends: its hidden fields, the password and the choice
abbrev pub sent_fields : Ask → List ℕ → List ℕ → List (List ℕ × List ℕ)
sent_fields ask password choice = ask_fields ask.redirect ask.client ask.scopes (state_fields ask.state ++ choice_fields password choice)
