-- The limits of what the words are, in bytes where nothing else is said (own).
use Rattle.std.specs.Prelude.{ℕ}

-- a name
abbrev pub max_name : ℕ
max_name = 255

-- the names of a path, counted
abbrev pub max_names : ℕ
max_names = 32

-- a content type
abbrev pub max_kind : ℕ
max_kind = 255

-- the text of an entity tag
abbrev pub max_tag : ℕ
max_tag = 255

-- a user's name
abbrev pub max_user : ℕ
max_user = 32

-- a document's body
abbrev pub max_body : ℕ
max_body = 67108864

-- a document's body in a record that doesn't say who wrote it
abbrev pub max_plain_body : ℕ
max_plain_body = 16777216
