-- The limits of scopes, in bytes (own).
use Rattle.std.specs.Prelude.{ℕ}

-- the name of a module
abbrev pub max_module : ℕ
max_module = 64

-- the text of scopes
abbrev pub max_scopes : ℕ
max_scopes = 1024
