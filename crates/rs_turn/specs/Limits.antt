-- The limit of the lock.
use Rattle.std.specs.Prelude.{ℕ}

-- so many seats of a lock are numbered in one after the other, and then no more
abbrev pub max_seats : ℕ
max_seats = 4294967295
