-- Where the head of a reply stands in its bytes, behind those of interim replies (RFC 9112, section 2.1; RFC 9110,
-- section 15.2).
use Rattle.std.specs.Prelude.{ℕ, ◌-◌, true, List, [], ◌∷◌, length, take, Option, Some, None, Result, Ok, Err}
use Rattle.rs_request.specs.declared.search.Spot.{Spot}
use Rattle.rs_request.specs.declared.search.Spot.TheVariants.{Before}
use Rattle.rs_request.specs.Lines.{next_spot, past_breaks}
use Rattle.rs_reply.specs.declared.message.ReplyMessage.{ReplyMessage}
use Rattle.rs_reply.specs.Replies.{reply_of}

-- what is read of the bytes as a reply without a body: they are it, or too many from a place on
abbrev pub end_read : List ℕ → Result ReplyMessage ℕ → ℕ
end_read bytes (Ok m) = length bytes
end_read bytes (Err place) = place

-- the place behind the head of the reply: without a body, it would end there
abbrev pub head_end : List ℕ → ℕ
head_end bytes = end_read bytes (reply_of true bytes)

-- the text behind an empty line, where there is one
abbrev pub or_before : List ℕ → List ℕ → List ℕ
or_before part [] = part
or_before part (b ∷ bytes) = b ∷ bytes

-- what goes on behind a byte: in the same part, or with what follows an empty line
abbrev pub going_on : Option Spot → List ℕ → List ℕ → (Spot → List ℕ → List ℕ) → List ℕ
going_on (Some spot) part bytes last = last spot part
going_on None part bytes last = last Before (or_before part bytes)

-- the text behind the last empty line that bytes follow, else `part`, where what stands before leads to this spot of a line
abbrev pub last_from : Spot → List ℕ → List ℕ → List ℕ
last_from spot part [] = part
last_from spot part (b ∷ bytes) = going_on (next_spot spot b) part bytes (λ next later. last_from next later bytes)

-- of heads, which stand one after another, each up to its first empty line, the last
abbrev pub last_part : List ℕ → List ℕ
last_part heads = last_from Before heads heads

-- the place of the first byte of the head that is no CR and no LF
abbrev pub head_start : List ℕ → ℕ
head_start bytes = head_end bytes - length (past_breaks (last_part (take (head_end bytes) bytes)))
