-- What an answer looks at.
use Rattle.std.specs.Prelude.{ℕ, List, Option}
use Rattle.rs_scope.specs.declared.scope.Scope.{Scope}
use Rattle.rs_rules.specs.Histories.{History, len}
use Rattle.rs_rules.specs.Tokens.{scopes_of}
use Rattle.rs_rules.specs.Contents.{Contents, contents}

-- the length of a history, its contents, and the scopes of the granted tokens
pub record Snapshot : Type 0 where
  pub len : ℕ
  pub contents : Contents
  pub scopes : List ℕ → Option (List Scope)

abbrev pub snapshot : History → Snapshot
snapshot h = record { len = len h; contents = contents h; scopes = λ token. scopes_of h token }
