-- The scopes of tokens (RFC 6749, sections 3.3 and 4.2).
use Rattle.std.specs.Prelude.{ℕ, List, Option, Some, None, if◌then◌else◌}
use Rattle.std.specs.Str.{bytes_eq}
use Rattle.rs_scope.specs.declared.scope.Scope.{Scope}
use Rattle.rs_record.specs.declared.records.Record.{Record}
use Rattle.rs_record.specs.declared.records.Record.TheVariants.{Put, Remove, Grant, Revoke}
use Rattle.rs_rules.specs.Histories.{History, replay}

-- the scopes of the token after record n
abbrev pub scopes_after : List ℕ → ℕ → Record → Option (List Scope) → Option (List Scope)
scopes_after token n (Put path kind body writer) old = old
scopes_after token n (Remove path writer) old = old
scopes_after token n (Grant to scopes) old = if bytes_eq to token then Some scopes else old
scopes_after token n (Revoke from) old = if bytes_eq from token then None else old

-- the scopes of the token's last Grant or Revoke where that is a Grant; otherwise it isn't granted
abbrev pub scopes_of : History → List ℕ → Option (List Scope)
scopes_of h token = replay (scopes_after token) h.base.cut (h.base.tokens token) h.entries
