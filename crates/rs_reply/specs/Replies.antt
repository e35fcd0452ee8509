-- What bytes are as a reply (RFC 9112, sections 4, 6 and 7.1): the reply, or the place from which
-- on they are none.
use Rattle.std.specs.Prelude.{◌≡◌, ⊤, ℕ, suc, ◌+◌, ◌-◌, ◌/◌, ◌==◌, ◌<◌, ◌≤◌, Bool, nat_lt, if◌then◌else◌, List, [], ◌++◌, length, take, drop, Option, Some, None, Result, Ok, Err}
use Rattle.std.specs.Option.{option_map_or}
use Rattle.httparse.specs.Grammar.{ResponseHead, status_code}
use Rattle.httparse.specs.declared.spans.HeaderSpan.{HeaderSpan}
use Rattle.httparse.specs.declared.spans.ResponseSpans.{ResponseSpans}
use Rattle.httparse.specs.Spans.{IsResponseAt, IsResponseWithin}
use Rattle.rs_reply.specs.declared.fault.ReplyFault.{ReplyFault}
use Rattle.rs_reply.specs.declared.fault.ReplyFault.TheVariants.{Bad, NoMemory}
use Rattle.rs_request.specs.declared.fault.WireWhy.{WireWhy}
use Rattle.rs_request.specs.declared.framing.Framing.{Framing}
use Rattle.rs_request.specs.declared.framing.Framing.TheVariants.{Unstated, Length, Chunked}
use Rattle.rs_reply.specs.declared.message.ReplyMessage.{ReplyMessage}
use Rattle.rs_reply.specs.declared.reply.Chunk.{Chunk}
use Rattle.rs_reply.specs.declared.reply.ReplyHead.{ReplyHead}
use Rattle.rs_request.specs.declared.search.Spot.TheVariants.{Before, Fresh}
use Rattle.rs_request.specs.Limits.{max_head, max_chunk_line, max_trailer}
use Rattle.rs_request.specs.Bodies.{has_line_end}
use Rattle.rs_request.specs.ChunkTexts.{size_of}
use Rattle.rs_request.specs.Framing.{stated}
use Rattle.rs_request.specs.Lines.{first_empty_line, first_line, past_breaks}
use Rattle.rs_reply.specs.ReplyTexts.{response_head}
use Rattle.rs_request.specs.RequestHeads.{fields_of}
use Rattle.std.specs.declared.ops.ControlFlow.{ControlFlow}
use Rattle.std.specs.declared.ops.ControlFlow.TheVariants.{Continue, Break}
use Rattle.rs_reply.specs.Runs.{run}
use Rattle.rs_reply.specs.Writing.{has_no_body}

-- ---- heads

-- the spans are those of the head that the whole text is
pub record IsResponseIn (text : List ℕ) (room : List HeaderSpan) (spans : ResponseSpans) : Type 0
  where
    pub head : ResponseHead
    pub is : response_head text ≡ Some head
    pub at : IsResponseAt text room spans head
    pub within : IsResponseWithin text room spans
    pub whole : spans.len ≡ length text

-- the head whose first byte is at this place, up to that end
abbrev pub reply_head_of : ℕ → ℕ → ResponseHead → ReplyHead
reply_head_of at end h =
    record { status = status_code h; fields = fields_of h.fields; place = at; end = end }

-- the same of a text
unfoldable pub judged_reply : ℕ → ℕ → List ℕ → Result ReplyHead ℕ
judged_reply at end text =
    option_map_or (λ h. Ok (reply_head_of at end h)) (response_head text) (Err at)

-- the place of the first byte from the place on that is no CR and no LF, where a head begins
unfoldable pub first_byte : List ℕ → ℕ → ℕ
first_byte bytes at = length bytes - length (past_breaks (drop at bytes))

-- where the first max_head bytes from the place on have this first empty line
abbrev pub reply_ending : List ℕ → ℕ → Option ℕ → Result ReplyHead ℕ
reply_ending bytes at None =
    if nat_lt (length (drop at bytes)) max_head then Err (length bytes)
    else Err (first_byte bytes at)
reply_ending bytes at (Some n) =
    judged_reply (first_byte bytes at) (at + n) (past_breaks (take n (drop at bytes)))

-- the head that begins at the place, or the place of its fault
unfoldable pub reply_head_at : List ℕ → ℕ → Result ReplyHead ℕ
reply_head_at bytes at =
    reply_ending bytes at (first_empty_line Before (take max_head (drop at bytes)))

-- a head of a status from 100 to 199 is followed by another
abbrev pub head_step : Result ReplyHead ℕ → ControlFlow (Result ReplyHead ℕ) ℕ
head_step (Ok h) = if h.status / 100 == 1 then Continue h.end else Break (Ok h)
head_step (Err place) = Break (Err place)

-- the first head from the place on that no other follows
unfoldable pub last_head : List ℕ → ℕ → Result ReplyHead ℕ
last_head bytes at =
    run (λ at. head_step (reply_head_at bytes at)) (Err (length bytes)) (suc (length bytes)) at

-- a head begins and ends in the bytes
abbrev pub IsHeadIn : List ℕ → ℕ → Result ReplyHead ℕ → Type 0
IsHeadIn bytes at (Ok h) = (at < h.end) × (h.end ≤ length bytes)
IsHeadIn bytes at (Err place) = ⊤

-- ---- chunks

-- the trailer from the place on has this first empty line
abbrev pub trailer_ending : List ℕ → ℕ → Option ℕ → Result ℕ ℕ
trailer_ending bytes at None =
    if nat_lt (length (drop at bytes)) max_trailer then Err (length bytes) else Err at
trailer_ending bytes at (Some n) = Ok (at + n)

-- the end of the trailer
unfoldable pub trailer_end : List ℕ → ℕ → Result ℕ ℕ
trailer_end bytes at =
    trailer_ending bytes at (first_empty_line Fresh (take max_trailer (drop at bytes)))

-- the chunk of size 0
abbrev pub last_chunk : ℕ → Result ℕ ℕ → Result Chunk ℕ
last_chunk line (Ok end) = Ok (record { line = line; size = 0; end = end })
last_chunk line (Err place) = Err place

-- the data of a chunk, where its line begins at the place
unfoldable pub data_chunk : List ℕ → ℕ → ℕ → ℕ → Result Chunk ℕ
data_chunk bytes at line size =
    if nat_lt (length (drop line bytes)) size then Err (length bytes)
    else (if nat_lt (length (drop (line + size) bytes)) 2 then Err (length bytes)
    else (if has_line_end (drop (line + size) bytes) then
    Ok (record { line = line; size = size; end = line + size + 2 })
    else Err at))

-- a chunk whose line ends before the place
abbrev pub sized_chunk : List ℕ → ℕ → ℕ → Option ℕ → Result Chunk ℕ
sized_chunk bytes at line None = Err at
sized_chunk bytes at line (Some size) =
    if size == 0 then last_chunk line (trailer_end bytes line) else data_chunk bytes at line size

-- a chunk whose line has so many bytes
abbrev pub chunk_ending : List ℕ → ℕ → Option ℕ → Result Chunk ℕ
chunk_ending bytes at None =
    if nat_lt (length (drop at bytes)) max_chunk_line then Err (length bytes) else Err at
chunk_ending bytes at (Some n) = sized_chunk bytes at (at + n) (size_of (take n (drop at bytes)))

-- the chunk at the place, or the place of its fault
unfoldable pub chunk_at : List ℕ → ℕ → Result Chunk ℕ
chunk_at bytes at = chunk_ending bytes at (first_line (take max_chunk_line (drop at bytes)))

-- a chunk begins and ends in the bytes
abbrev pub IsChunkIn : List ℕ → ℕ → Result Chunk ℕ → Type 0
IsChunkIn bytes at (Ok c) = (at < c.line) × (c.line + c.size ≤ c.end) × (c.end ≤ length bytes)
IsChunkIn bytes at (Err place) = ⊤

-- the body so far, and the place of the next chunk
abbrev pub chunk_step : List ℕ → List ℕ → Result Chunk ℕ
    → ControlFlow (Result (List ℕ × ℕ) ℕ) (List ℕ × ℕ)
chunk_step bytes body (Ok c) =
    if c.size == 0 then Break (Ok (body, c.end))
    else Continue (body ++ take c.size (drop c.line bytes), c.end)
chunk_step bytes body (Err place) = Break (Err place)

-- the body of the chunks from the place on, and their end
unfoldable pub chunks_from : List ℕ → List ℕ → ℕ → Result (List ℕ × ℕ) ℕ
chunks_from bytes body at =
    run (λ s. chunk_step bytes s.0 (chunk_at bytes s.1)) (Err (length bytes)) (suc (length bytes))
    (body, at)

-- ---- replies

-- the body from the place on, and its end
abbrev pub reply_body : List ℕ → ℕ → Framing → Result (List ℕ × ℕ) ℕ
reply_body bytes at Unstated = Ok (drop at bytes, length bytes)
reply_body bytes at (Length n) =
    if nat_lt (length (drop at bytes)) n then Err (length bytes)
    else Ok (take n (drop at bytes), at + n)
reply_body bytes at Chunked = chunks_from bytes [] at

-- a reply that has no body is as long as its head
abbrev pub reply_framing : Bool → Framing → Framing
reply_framing none framing = if none then Length 0 else framing

-- no byte follows the body
abbrev pub ended_reply : List ℕ → ReplyHead → Result (List ℕ × ℕ) ℕ → Result ReplyMessage ℕ
ended_reply bytes h (Ok b) =
    if nat_lt b.1 (length bytes) then Err b.1
    else Ok (record { status = h.status; fields = h.fields; body = b.0 })
ended_reply bytes h (Err place) = Err place

-- the body is framed by what the head states
abbrev pub framed_reply : Bool → List ℕ → ReplyHead → Result Framing WireWhy → Result ReplyMessage ℕ
framed_reply bodiless bytes h (Ok framing) =
    let used = reply_framing (has_no_body bodiless h.status) framing in
    ended_reply bytes h (reply_body bytes h.end used)
framed_reply bodiless bytes h (Err why) = Err h.place

abbrev pub headed_reply : Bool → List ℕ → Result ReplyHead ℕ → Result ReplyMessage ℕ
headed_reply bodiless bytes (Ok h) = framed_reply bodiless bytes h (stated h.fields)
headed_reply bodiless bytes (Err place) = Err place

-- the reply that the bytes are, or the place of the fault
unfoldable pub reply_of : Bool → List ℕ → Result ReplyMessage ℕ
reply_of bodiless bytes = headed_reply bodiless bytes (last_head bytes 0)

-- the answer is that, or there was no memory
abbrev pub IsReply : Result ReplyMessage ℕ → Result ReplyMessage ReplyFault → Type 0
IsReply r (Ok m) = r ≡ Ok m
IsReply r (Err (Bad place)) = r ≡ Err place
IsReply r (Err NoMemory) = ⊤
