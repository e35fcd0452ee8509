-- The limit of a database's rows (own).
use Rattle.std.specs.Prelude.{ℕ}

-- so many rows, the greatest number that a column of integers holds
abbrev pub max_rows : ℕ
max_rows = 9223372036854775807
