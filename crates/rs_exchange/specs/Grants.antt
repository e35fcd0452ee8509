-- What is asked where a user grants access (RFC 6749, section 4.2): by GET the page, by POST the consent that its form sends.
use Rattle.std.specs.Prelude.{◌≡◌, ℕ, Bool, true, false, List, Option, Some, None, Result, Ok, Err, slice_get}
use Rattle.std.specs.Option.{option_map_or}
use Rattle.rs_grant.specs.declared.ask.Ask.{Ask}
use Rattle.rs_grant.specs.declared.choice.Choice.{Choice}
use Rattle.rs_grant.specs.declared.choice.Choice.TheVariants as choice
use Rattle.rs_grant.specs.declared.grant_fault.GrantFault.{GrantFault}
use Rattle.rs_grant.specs.declared.grant_fault.GrantFault.TheVariants as fault
use Rattle.rs_grant.specs.declared.grant_word.GrantWord.TheVariants.{InvalidRequest, AccessDenied, ServerError}
use Rattle.rs_grant.specs.declared.outcome.Outcome.{Outcome}
use Rattle.rs_grant.specs.declared.outcome.Outcome.TheVariants as told
use Rattle.rs_grant.specs.Asks.{ask_reading}
use Rattle.rs_grant.specs.Consents.{consent_reading}
use Rattle.rs_grant.specs.Pages.{page_text}
use Rattle.rs_grant.specs.Passwords.{password_fits}
use Rattle.rs_grant.specs.Redirects.{redirect_text}
use Rattle.rs_request.specs.declared.field.Field.{Field}
use Rattle.rs_scope.specs.declared.method.Method.TheVariants.{Get, Head, Put, Delete}
use Rattle.rs_exchange.specs.declared.account.Account.{Account}
use Rattle.rs_exchange.specs.declared.answer.Answer.{Answer}
use Rattle.rs_exchange.specs.declared.answer.Answer.TheVariants.{Refused, Made, Redirect}
use Rattle.rs_exchange.specs.declared.answer.Sheet.{Sheet}
use Rattle.rs_exchange.specs.declared.answer.Sheet.TheVariants.{ConsentPage, DeniedPage}
use Rattle.rs_exchange.specs.declared.asked.Asked.{Asked}
use Rattle.rs_exchange.specs.declared.asked.Asked.TheVariants.{Now, Consent}
use Rattle.rs_exchange.specs.declared.refusal.Methods.TheVariants as methods
use Rattle.rs_exchange.specs.declared.refusal.Refusal.TheVariants.{NotFound, NotAllowed, BadAddress}
use Rattle.rs_exchange.specs.declared.verb.Verb.{Verb}
use Rattle.rs_exchange.specs.declared.verb.Verb.TheVariants.{Data, Options, Post, Other}
use Rattle.rs_exchange.specs.Refusals.{refused, with_conditions}

-- ---- what the app is told

-- the redirect with this outcome
abbrev pub sent_back : Ask → Outcome → Answer
sent_back ask outcome = Redirect (redirect_text ask.redirect outcome ask.state)

-- why nothing is asked of the user; the last is no reading of a query
abbrev pub fault_answer : GrantFault → Answer
fault_answer fault.BadRedirect = Refused BadAddress
fault_answer (fault.Word word redirect state) = Redirect (redirect_text redirect (told.Word word) state)
fault_answer fault.NoMemory = Refused BadAddress

-- no fault but want of memory is without its answer
abbrev pub Refuses : GrantFault → Asked → Type 0
Refuses fault.NoMemory asked = ⊥
Refuses other asked = asked ≡ Now (fault_answer other)

-- that no token was granted, and not for the user's choice
abbrev pub not_granted : Ask → Answer
not_granted ask = sent_back ask (told.Word ServerError)

-- ---- what is asked

-- the page about what is asked for
abbrev pub shown_page : Sheet → List ℕ → Ask → Asked
shown_page sheet user ask = Now (Made sheet (page_text user ask))

-- by a query
abbrev pub asked_page : List ℕ → Result Ask GrantFault → Asked
asked_page user (Ok ask) = shown_page ConsentPage user ask
asked_page user (Err fault) = Now (fault_answer fault)

-- the password is the account's, where it has one
abbrev pub fits_secret : List ℕ → Option (List ℕ) → List ℕ → Bool
fits_secret salt None password = false
fits_secret salt (Some secret) password = password_fits salt secret password

abbrev pub fits_account : Account → List ℕ → Bool
fits_account account password = fits_secret account.salt account.secret password

-- the same of a form, which may have none
abbrev pub may_enter : Account → Option (List ℕ) → Bool
may_enter account None = false
may_enter account (Some password) = fits_account account password

-- what was allowed is granted to whom the password is the user's
abbrev pub asked_allowed : Account → ℕ → Ask → Bool → Asked
asked_allowed account user ask true = Consent user ask
asked_allowed account user ask false = shown_page DeniedPage account.name ask

-- by what the user chose
abbrev pub asked_by_choice : Account → ℕ → Ask → Choice → Asked
asked_by_choice account user ask choice.Deny = Now (sent_back ask (told.Word AccessDenied))
asked_by_choice account user ask choice.Other = Now (sent_back ask (told.Word InvalidRequest))
asked_by_choice account user ask (choice.Allow password) = asked_allowed account user ask (may_enter account password)

-- by a form
abbrev pub asked_consent : Account → ℕ → Result (Ask × Choice) GrantFault → Asked
asked_consent account user (Ok consent) = asked_by_choice account user consent.0 consent.1
asked_consent account user (Err fault) = Now (fault_answer fault)

-- by the method, where the user's account is this
abbrev pub asked_by_method : Account → ℕ → List Field → Verb → List ℕ → List ℕ → Asked
asked_by_method account user fields (Data Get) query body = with_conditions fields (asked_page account.name (ask_reading query))
asked_by_method account user fields (Data Head) query body = with_conditions fields (asked_page account.name (ask_reading query))
asked_by_method account user fields (Data Put) query body = refused (NotAllowed methods.Grant)
asked_by_method account user fields (Data Delete) query body = refused (NotAllowed methods.Grant)
asked_by_method account user fields Options query body = refused (NotAllowed methods.Grant)
asked_by_method account user fields Post query body = with_conditions fields (asked_consent account user (consent_reading body))
asked_by_method account user fields Other query body = refused (NotAllowed methods.Grant)

-- where the user with this number grants access
abbrev pub asked_grant : List Account → ℕ → List Field → Verb → List ℕ → List ℕ → Asked
asked_grant accounts user fields verb query body =
    option_map_or (λ (account : Account). asked_by_method account user fields verb query body) (slice_get accounts user) (refused NotFound)
