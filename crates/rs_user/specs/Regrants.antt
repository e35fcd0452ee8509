-- Revocations of one token, each followed by a grant of its scopes.
use Rattle.std.specs.Prelude.{ℕ, zero, suc, List, [], ◌∷◌}
use Rattle.rs_path.specs.declared.log_entry.LogEntry.{LogEntry}
use Rattle.rs_scope.specs.declared.scope.Scope.{Scope}
use Rattle.rs_record.specs.declared.records.Record.{Record}
use Rattle.rs_record.specs.declared.records.Record.TheVariants.{Grant, Revoke}

-- so many pairs; whoever made them isn't known
abbrev pub regrants : List ℕ → List Scope → ℕ → List (LogEntry Record)
regrants token scopes zero = []
regrants token scopes (suc n) = record { who = 0; what = Revoke token } ∷ record { who = 0; what = Grant token scopes } ∷ regrants token scopes n
