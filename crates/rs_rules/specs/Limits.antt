-- The limits of a history (own).
use Rattle.std.specs.Prelude.{ℕ}

-- the greatest length of a history
abbrev pub max_len : ℕ
max_len = 4294967295

-- the greatest number of items of a folder
abbrev pub max_items : ℕ
max_items = 50000
