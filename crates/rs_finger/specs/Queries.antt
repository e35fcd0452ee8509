-- The target that asks for an account (RFC 7033, section 4.1).
use Rattle.std.specs.Prelude.{ℕ, List, [], ◌++◌, codes}
use Rattle.form_urlencoded.specs.Form.{append_pair}

-- the account, as `alice@localhost`, as a URI
abbrev pub resource_of : List ℕ → List ℕ
resource_of account = codes "acct:" ++ account

-- `resource=acct%3AUSER%40HOST`
abbrev pub target_query : List ℕ → List ℕ
target_query account = append_pair [] (codes "resource") (resource_of account)

abbrev pub finger_target : List ℕ → List ℕ
finger_target account = codes "/.well-known/webfinger?" ++ target_query account
