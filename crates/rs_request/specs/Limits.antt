-- The limits of messages, in bytes where nothing else is said (own). A request's body has max_body
-- bytes at most (`rs_path`).
use Rattle.std.specs.Prelude.{ℕ}

-- the head of a request or of a reply, with the line ends that were dropped before it
abbrev pub max_head : ℕ
max_head = 16384

-- the fields of a request's head, counted
abbrev pub max_fields : ℕ
max_fields = 128

-- the target of a request
abbrev pub max_target : ℕ
max_target = 8192

-- the digits of a Content-Length, counted
abbrev pub max_length_digits : ℕ
max_length_digits = 18

-- the line before a chunk, with its line end
abbrev pub max_chunk_line : ℕ
max_chunk_line = 256

-- all lines of a trailer together
abbrev pub max_trailer : ℕ
max_trailer = 16384

-- a request that isn't whole yet has fewer bytes: a head, and a body in chunks of one byte each
-- behind the longest lines, up to the end of its trailer
abbrev pub max_message : ℕ
max_message = 17381228800
