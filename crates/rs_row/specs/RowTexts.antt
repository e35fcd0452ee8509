-- Texts in rows, behind their lengths. Numbers are big-endian.
use Rattle.std.specs.Prelude.{ℕ, List, ◌∷◌, ◌++◌, length}
use Rattle.std.specs.Int.{w16, w32, to_be_bytes}

-- a text behind its length of one byte
abbrev pub behind_1 : List ℕ → List ℕ
behind_1 text = length text ∷ text

-- a text behind its length of two bytes
abbrev pub behind_2 : List ℕ → List ℕ
behind_2 text = to_be_bytes w16 (length text) ++ text

-- a body behind its length of four bytes
abbrev pub behind_4 : List ℕ → List ℕ
behind_4 text = to_be_bytes w32 (length text) ++ text
