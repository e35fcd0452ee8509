-- What is asked of discovery, which is answered at once (RFC 7033, section 4).
use Rattle.std.specs.Prelude.{ℕ, List, Result, Ok, Err}
use Rattle.rs_finger.specs.declared.finger_fault.FingerFault.{FingerFault}
use Rattle.rs_finger.specs.declared.finger_fault.FingerFault.TheVariants as finger
use Rattle.rs_finger.specs.Answers.{finger_answer}
use Rattle.rs_request.specs.declared.field.Field.{Field}
use Rattle.rs_scope.specs.declared.method.Method.TheVariants.{Get, Head, Put, Delete}
use Rattle.rs_exchange.specs.declared.account.Config.{Config}
use Rattle.rs_exchange.specs.declared.answer.Answer.TheVariants.{Preflight, Made}
use Rattle.rs_exchange.specs.declared.answer.Sheet.TheVariants.{Description}
use Rattle.rs_exchange.specs.declared.asked.Asked.{Asked}
use Rattle.rs_exchange.specs.declared.asked.Asked.TheVariants.{Now}
use Rattle.rs_exchange.specs.declared.refusal.Methods.TheVariants as methods
use Rattle.rs_exchange.specs.declared.refusal.Refusal.TheVariants.{NotFound, NotAllowed, BadResource}
use Rattle.rs_exchange.specs.declared.verb.Verb.{Verb}
use Rattle.rs_exchange.specs.declared.verb.Verb.TheVariants.{Data, Options, Post, Other}
use Rattle.rs_exchange.specs.Accounts.{names_of}
use Rattle.rs_exchange.specs.Refusals.{refused, with_conditions}

-- the description of the account, or why there is none; the last two are none of a query
abbrev pub discovered : Result (List ℕ) FingerFault → Asked
discovered (Ok text) = Now (Made Description text)
discovered (Err finger.NoResource) = refused BadResource
discovered (Err finger.BadResource) = refused BadResource
discovered (Err finger.Unknown) = refused NotFound
discovered (Err finger.NoLink) = refused NotFound
discovered (Err finger.NoMemory) = refused NotFound

-- what is asked with a query
abbrev pub asked_account : Config → List ℕ → Asked
asked_account config query = discovered (finger_answer config.base config.host (names_of config.accounts) query)

-- the same by the method
abbrev pub asked_discovery : Config → List Field → Verb → List ℕ → Asked
asked_discovery config fields (Data Get) query = with_conditions fields (asked_account config query)
asked_discovery config fields (Data Head) query = with_conditions fields (asked_account config query)
asked_discovery config fields (Data Put) query = refused (NotAllowed methods.Discovery)
asked_discovery config fields (Data Delete) query = refused (NotAllowed methods.Discovery)
asked_discovery config fields Options query = Now Preflight
asked_discovery config fields Post query = refused (NotAllowed methods.Discovery)
asked_discovery config fields Other query = refused (NotAllowed methods.Discovery)
