-- A message that is refused before a desk is asked.
use Rattle.std.specs.Prelude.{List, if◌then◌else◌}
use Rattle.rs_request.specs.declared.field.Field.{Field}
use Rattle.rs_exchange.specs.declared.answer.Answer.TheVariants.{Refused}
use Rattle.rs_exchange.specs.declared.asked.Asked.{Asked}
use Rattle.rs_exchange.specs.declared.asked.Asked.TheVariants.{Now}
use Rattle.rs_exchange.specs.declared.refusal.Refusal.{Refusal}
use Rattle.rs_exchange.specs.declared.refusal.Refusal.TheVariants.{BadCondition}
use Rattle.rs_exchange.specs.Conditions.{are_conditions}

-- the message is refused, and no desk is asked
abbrev pub refused : Refusal → Asked
refused refusal = Now (Refused refusal)

-- this is asked where the fields' conditions are conditions (RFC 9110, section 13.1)
abbrev pub with_conditions : List Field → Asked → Asked
with_conditions fields asked = if are_conditions fields then asked else refused BadCondition
