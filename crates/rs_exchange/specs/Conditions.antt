-- The conditions that the fields of a request are (RFC 9110, section 13.1).
use Rattle.std.specs.Prelude.{ℕ, ◌^◌, Bool, ◌&&◌, nat_le, List, length, Option, Some, None, is_some, codes, if◌then◌else◌}
use Rattle.std.specs.Result.{result_ok}
use Rattle.rs_rules.specs.declared.cond.Cond.{Cond}
use Rattle.rs_rules.specs.declared.cond.Cond.TheVariants.{Missing}
use Rattle.rs_rules.specs.CondReadings.{cond_reading}
use Rattle.rs_request.specs.declared.field.Field.{Field}
use Rattle.rs_exchange.specs.Fields.{joined, values_of}

-- the condition that a text is, if it is one; no head is as long as a text that is refused for its length
abbrev pub cond_of_text : List ℕ → Option Cond
cond_of_text text = if nat_le (2 ^ 32) (length text) then None else result_ok (cond_reading text)

-- the same of the values that are joined, where there is one
abbrev pub cond_of_joined : Option (List ℕ) → Option Cond
cond_of_joined None = Some Missing
cond_of_joined (Some text) = cond_of_text text

-- the condition that fields with these values are, if they are one
abbrev pub cond_of : List (List ℕ) → Option Cond
cond_of values = cond_of_joined (joined values)

-- the conditions that these fields are, are some
abbrev pub are_conditions : List Field → Bool
are_conditions fields = is_some (cond_of (values_of (codes "if-match") fields)) && is_some (cond_of (values_of (codes "if-none-match") fields))
