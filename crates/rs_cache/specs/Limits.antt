-- The limits of a client's journal (own).
use Rattle.std.specs.Prelude.{ℕ}

-- the body of a document that the server showed, in bytes
abbrev pub max_shown_body : ℕ
max_shown_body = 134217728

-- the rows of a journal, counted
abbrev pub max_journal : ℕ
max_journal = 4294967295
