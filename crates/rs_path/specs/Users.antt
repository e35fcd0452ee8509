-- Names of users (own).
use Rattle.std.specs.Prelude.{ℕ, Bool, ◌&&◌, ◌||◌, ◌==◌, nat_lt, nat_le, List, length}
use Rattle.std.specs.List.{list_all}
use Rattle.rs_path.specs.Limits.{max_user}

-- `a` to `z`, a digit, `-` or `_`
abbrev pub is_user_byte : ℕ → Bool
is_user_byte byte = (nat_le 97 byte && nat_le byte 122) || (nat_le 48 byte && nat_le byte 57) || byte == 45 || byte == 95

-- a user's name: 1 to 32 of these bytes
abbrev pub is_user : List ℕ → Bool
is_user text = nat_lt 0 (length text) && nat_le (length text) max_user && list_all is_user_byte text
