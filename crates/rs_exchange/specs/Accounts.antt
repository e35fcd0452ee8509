-- The users that are served, by number.
use Rattle.std.specs.Prelude.{◌≡◌, ℕ, ◌<◌, Bool, true, List, length, map, Option, position, IsUtf8}
use Rattle.std.specs.List.{list_all}
use Rattle.std.specs.Str.{bytes_eq}
use Rattle.rs_path.specs.Users.{is_user}
use Rattle.rs_exchange.specs.declared.account.Account.{Account}
use Rattle.rs_exchange.specs.declared.account.Config.{Config}

-- the user has an account, whose place is the user's number
abbrev pub IsAccount : List Account → ℕ → Type 0
IsAccount accounts user = user < length accounts

-- the account is of the user with this name
abbrev pub is_of : List ℕ → Account → Bool
is_of name account = bytes_eq account.name name

-- the number of the user with this name, compared as it stands
abbrev pub account_of : List Account → List ℕ → Option ℕ
account_of accounts name = position (is_of name) accounts

-- the names of the users
abbrev pub names_of : List Account → List (List ℕ)
names_of accounts = map (λ (a : Account). a.name) accounts

-- a server that can answer discovery: its address is UTF-8, and its users have names of users
pub record IsConfig (config : Config) : Type 0 where
  pub base : IsUtf8 config.base
  pub users : list_all is_user (names_of config.accounts) ≡ true
