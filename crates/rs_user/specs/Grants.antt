-- The tokens that are granted, with their scopes.
use Rattle.std.specs.Prelude.{ℕ, List, Option, Some, None, if◌then◌else◌}
use Rattle.std.specs.BTreeMap.{is_at}
use Rattle.std.specs.Map.{lookup}
use Rattle.std.specs.Cmp.Lexicographic.{slice_cmp}
use Rattle.std.specs.Ordering.{nat_cmp}
use Rattle.rs_path.specs.Paths.{Path}
use Rattle.rs_scope.specs.declared.method.Method.{Method}
use Rattle.rs_scope.specs.declared.scope.Scope.{Scope}
use Rattle.rs_scope.specs.Reach.{reach_of}
use Rattle.rs_rules.specs.declared.reply.Reply.{Reply}
use Rattle.rs_rules.specs.declared.reply.Reply.TheVariants.{BadToken, Forbidden}

-- the scopes of a token among tokens with their scopes, if it is there
abbrev pub scopes_in : List ℕ → List (List ℕ × List Scope) → Option (List Scope)
scopes_in token granted = lookup (is_at (slice_cmp nat_cmp token)) granted

-- the reply to a token that has these scopes, if they aren't enough
abbrev pub token_refusal : Option (List Scope) → Method → Path → Option Reply
token_refusal None method path = Some BadToken
token_refusal (Some scopes) method path = if reach_of scopes method path then None else Some Forbidden
