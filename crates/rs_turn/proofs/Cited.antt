-- What upper crates cite: lists that begin with others.
use Rattle.std.proofs.Common.{List, ◌++◌, Option, ap, ◌∙◌, append_assoc}
use Rattle.rs_path.specs.declared.log_entry.LogEntry.{LogEntry}
use Rattle.rs_path.specs.Logs.{StartsWith}
use Rattle.rs_turn.specs.Origins.{BeginsAsMade}

module _ {A : Type 0} where
  pub begins_through : (a b c : List A) → StartsWith a b → StartsWith b c → StartsWith a c
  begins_through a b c s t = (t.0 ++ s.0, s.1 ∙ (ap (λ (z : List A). z ++ s.0) t.1 ∙ append_assoc c t.0 s.0))

-- a list that begins with what a seat has seen begins with what the origin stood for
pub begins_on : {V W : Type 0} (stands : V → List (LogEntry W) → Type 0) (origin : Option V) (later seen : List (LogEntry W))
    → StartsWith later seen → BeginsAsMade stands origin seen → BeginsAsMade stands origin later
begins_on stands origin later seen s made = (made.0, made.1, (made.2.0, made.2.1, begins_through later seen made.2.0 s made.2.2))
