-- The limits of what a client talks with, in bytes (own).
use Rattle.std.specs.Prelude.{ℕ}

-- a bearer token
abbrev pub max_bearer : ℕ
max_bearer = 1024

-- the address of an account's root, as it is printed
abbrev pub max_root : ℕ
max_root = 1024

-- a reply
abbrev pub max_reply : ℕ
max_reply = 134217728
