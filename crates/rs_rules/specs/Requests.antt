-- The bodies of requests.
use Rattle.std.specs.Prelude.{ℕ, Bool, true, nat_le, List, [], length, Some}
use Rattle.rs_scope.specs.declared.method.Method.{Method}
use Rattle.rs_scope.specs.declared.method.Method.TheVariants.{Get, Head, Put, Delete}
use Rattle.rs_rules.specs.declared.request.Request.{Request}
use Rattle.rs_rules.specs.declared.request.Request.TheVariants.{Store, Grant, Revoke}
use Rattle.rs_record.specs.Records.{body_limit}

-- a body that a Put brings is within the limit of records with a writer
abbrev pub is_short_for : Method → List ℕ → Bool
is_short_for Get body = true
is_short_for Head body = true
is_short_for Put body = nat_le (length body) (body_limit (Some []))
is_short_for Delete body = true

-- the request's body, where it is stored, is within the limit
abbrev pub is_within_limit : Request → Bool
is_within_limit (Store c) = is_short_for c.method c.body
is_within_limit (Grant token scopes) = true
is_within_limit (Revoke token) = true
