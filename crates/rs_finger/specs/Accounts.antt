-- Which account a resource names (RFC 7033, section 4; RFC 7565, section 7).
use Rattle.std.specs.Prelude.{ℕ, Bool, false, ◌&&◌, ◌||◌, ◌==◌, nat_lt, List, [], ◌∷◌, length, take, drop, map, Option, Some, None, option_and_then, codes, if◌then◌else◌}
use Rattle.std.specs.List.{list_all}
use Rattle.std.specs.Char.{is_ascii_alphabetic, is_ascii_alphanumeric, to_ascii_lowercase}
use Rattle.std.specs.Str.{bytes_eq}
use Rattle.form_urlencoded.specs.Form.{split_once}

-- a letter, a digit, `+`, `-` or `.`
abbrev pub is_scheme_byte : ℕ → Bool
is_scheme_byte byte = is_ascii_alphanumeric byte || byte == 43 || byte == 45 || byte == 46

-- a letter, and letters, digits, `+`, `-`, `.` behind it
abbrev pub is_scheme : List ℕ → Bool
is_scheme [] = false
is_scheme (first ∷ others) = is_ascii_alphabetic first && list_all is_scheme_byte others

-- a scheme, the first colon, and at least one character
abbrev pub is_uri : List ℕ → Bool
is_uri text = is_scheme (split_once 58 text).0 && nat_lt 0 (length (split_once 58 text).1)

-- what follows the front of a text
abbrev pub behind : List ℕ → List ℕ → Option (List ℕ)
behind front text = if bytes_eq (take (length front) text) front then Some (drop (length front) text) else None

-- HOST, where the resource is `acct:USER@HOST` of this user
abbrev pub host_named : List ℕ → List ℕ → Option (List ℕ)
host_named user resource =
    option_and_then (behind (64 ∷ [])) (option_and_then (behind user) (behind (codes "acct:") resource))

-- the same host: letters are compared without case
abbrev pub is_same_host : List ℕ → List ℕ → Bool
is_same_host host other = bytes_eq (map to_ascii_lowercase host) (map to_ascii_lowercase other)

-- the host that is named, where one is, is this one
abbrev pub is_named_host : List ℕ → Option (List ℕ) → Bool
is_named_host host None = false
is_named_host host (Some named) = is_same_host named host

-- the first user whom the resource names at this host
abbrev pub user_named : List ℕ → List ℕ → List (List ℕ) → Option (List ℕ)
user_named host resource [] = None
user_named host resource (user ∷ users) = if is_named_host host (host_named user resource) then Some user
    else user_named host resource users
