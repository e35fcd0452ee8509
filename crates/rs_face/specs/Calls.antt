-- The calls of an object in memory that fails by a list of call numbers.
use Rattle.std.specs.Prelude.{ℕ, ◌==◌, Bool, List, if◌then◌else◌}
use Rattle.std.specs.List.{list_any}
use Rattle.rs_face.specs.Causes.{one_more}

-- the numbers of the calls that fail, counted from 1, how many calls were made, and how many failed
pub record Calls : Type 0 where
  pub failing : List ℕ
  pub made : ℕ
  pub faults : ℕ

-- before the first call
abbrev pub no_calls : List ℕ → Calls
no_calls failing = record { failing = failing; made = 0; faults = 0 }

-- whether the next call is to fail
abbrev pub fails_next : Calls → Bool
fails_next calls = list_any (λ number. number == one_more calls.made) calls.failing

-- after one more call
abbrev pub after_call : Calls → Calls
after_call calls = record {
  failing = calls.failing;
  made = one_more calls.made;
  faults = if fails_next calls then one_more calls.faults else calls.faults;
}

-- after a fault of a call that isn't in the list
abbrev pub after_fault : Calls → Calls
after_fault calls = record { failing = calls.failing; made = calls.made; faults = one_more calls.faults }
