-- Tokens as a client shows them: the b64token of RFC 6750, section 2.1.
use Rattle.std.specs.Prelude.{ℕ, Bool, ◌&&◌, ◌||◌, ◌==◌, nat_lt, nat_le, List, length, position, take, drop, Option, Some, None}
use Rattle.std.specs.List.{list_all}
use Rattle.rs_path.specs.Targets.{is_unreserved}
use Rattle.rs_talk.specs.Limits.{max_bearer}

-- a letter, a digit, `-`, `.`, `_`, `~`, `+` or `/`
abbrev pub is_bearer_byte : ℕ → Bool
is_bearer_byte byte = is_unreserved byte || byte == 43 || byte == 47

-- `=`
abbrev pub is_padding : ℕ → Bool
is_padding byte = byte == 61

-- at least one of these bytes, and no other
abbrev pub is_bearer_front : List ℕ → Bool
is_bearer_front text = nat_lt 0 (length text) && list_all is_bearer_byte text

-- such bytes and then `=` alone, where the first `=` stands at this place
abbrev pub is_padded_from : Option ℕ → List ℕ → Bool
is_padded_from None text = is_bearer_front text
is_padded_from (Some place) text = is_bearer_front (take place text) && list_all is_padding (drop place text)

-- at least one of these bytes, and then any number of `=`
abbrev pub is_b64token : List ℕ → Bool
is_b64token text = is_padded_from (position is_padding text) text

-- such a text of at most 1,024 bytes
abbrev pub is_bearer : List ℕ → Bool
is_bearer text = nat_le (length text) max_bearer && is_b64token text
