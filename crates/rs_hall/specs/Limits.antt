-- The limit of a hall.
use Rattle.std.specs.Prelude.{ℕ}

-- the most users of one hall
abbrev pub max_users : ℕ
max_users = 1000
