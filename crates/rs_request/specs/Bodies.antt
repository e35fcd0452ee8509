-- The body of a request, by its framing (RFC 9112, sections 6 and 7.1).
use Rattle.std.specs.Prelude.{Bool, ℕ, zero, suc, ◌+◌, ◌==◌, nat_lt, if◌then◌else◌, List, [], ◌∷◌, ◌++◌, length, take, drop, Option, Some, None, Result, Ok, Err, bytes_eq}
use Rattle.rs_request.specs.declared.fault.WireFault.{WireFault}
use Rattle.rs_request.specs.declared.fault.WireWhy.{WireWhy}
use Rattle.rs_request.specs.declared.fault.WireWhy.TheVariants.{BadChunk, BodyLong}
use Rattle.rs_request.specs.declared.framing.Framing.{Framing}
use Rattle.rs_request.specs.declared.framing.Framing.TheVariants as framed
use Rattle.rs_request.specs.declared.body.Part.{Part}
use Rattle.rs_request.specs.declared.body.Part.TheVariants.{Length, Line, Data, Trailer}
use Rattle.rs_request.specs.declared.search.Spot.TheVariants.{Fresh}
use Rattle.rs_path.specs.Limits.{max_body}
use Rattle.rs_request.specs.Limits.{max_chunk_line, max_trailer}
use Rattle.rs_request.specs.Lines.{first_line, first_empty_line}
use Rattle.rs_request.specs.ChunkTexts.{size_of}

-- what the bytes after a head hold of the body: not yet all of it, the body and the place after it,
-- or a fault
pub data Body : Type 0 where
  unended : Body
  ended : List ℕ → ℕ → Body
  spoiled : WireFault → Body

-- what a part of a body comes to: more is needed; the next part, with the body so far, after so
-- many bytes; the whole body, after so many bytes; or a fault
pub data Turn : Type 0 where
  waits : Turn
  goes : Part → List ℕ → ℕ → Turn
  ends : List ℕ → ℕ → Turn
  fails : WireFault → Turn

abbrev pub fault_at : WireWhy → ℕ → WireFault
fault_at why place = record { why = why; place = place }

-- after a chunk of size 0 comes the trailer
abbrev pub part_after : ℕ → Part
part_after size = if size == 0 then Trailer (record { sought = 0; spot = Fresh }) else Data size

-- the part after a chunk line that gives this size, where the chunks so far have so many bytes
abbrev pub next_part : ℕ → Option ℕ → Result Part WireWhy
next_part so_far None = Err BadChunk
next_part so_far (Some size) =
    if nat_lt max_body (so_far + size) then Err BodyLong else Ok (part_after size)

-- the same as a turn of n bytes
abbrev pub size_turn : List ℕ → ℕ → ℕ → Result Part WireWhy → Turn
size_turn body at n (Ok part) = goes part body n
size_turn body at n (Err why) = fails (fault_at why at)

-- the line has so many bytes
abbrev pub line_turn : List ℕ → ℕ → List ℕ → Option ℕ → Turn
line_turn body at rest None =
    if nat_lt (length rest) max_chunk_line then waits else fails (fault_at BadChunk at)
line_turn body at rest (Some n) =
    size_turn body at n (next_part (length body) (size_of (take n rest)))

-- the trailer ends after so many bytes
abbrev pub trailer_turn : List ℕ → ℕ → List ℕ → Option ℕ → Turn
trailer_turn body at rest None =
    if nat_lt (length rest) max_trailer then waits else fails (fault_at BadChunk at)
trailer_turn body at rest (Some n) = ends body n

-- CR LF stands at the front
abbrev pub has_line_end : List ℕ → Bool
has_line_end rest = bytes_eq (take 2 rest) (13 ∷ 10 ∷ [])

-- what a part comes to, where the body so far is this, its first byte has this place, and these
-- bytes were fed
abbrev pub turn : Part → List ℕ → ℕ → List ℕ → Turn
turn (Length n) body at rest =
    if nat_lt (length rest) n then waits else ends (body ++ take n rest) n
turn (Line sought) body at rest = line_turn body at rest (first_line (take max_chunk_line rest))
turn (Data n) body at rest =
    if nat_lt (length rest) (n + 2) then waits
    else (if has_line_end (drop n rest) then goes (Line 0) (body ++ take n rest) (n + 2)
    else fails (fault_at BadChunk (at + n)))
turn (Trailer search) body at rest =
    trailer_turn body at rest (first_empty_line Fresh (take max_trailer rest))

-- what comes of a turn, where go says what comes of the parts after it
abbrev pub after_turn : (Part → List ℕ → ℕ → Body) → ℕ → Turn → Body
after_turn go at waits = unended
after_turn go at (goes part body n) = go part body n
after_turn go at (ends body n) = ended body (at + n)
after_turn go at (fails fault) = spoiled fault

-- the parts one after another, at most fuel of them
abbrev pub parts : ℕ → Part → List ℕ → ℕ → List ℕ → Body
parts zero part body at rest = unended
parts (suc fuel) part body at rest =
    after_turn (λ next more n. parts fuel next more (at + n) (drop n rest)) at
    (turn part body at rest)

-- the same: each part but the last takes a byte at least
unfoldable pub body_from : Part → List ℕ → ℕ → List ℕ → Body
body_from part body at rest = parts (suc (length rest)) part body at rest

-- the first part of a body
abbrev pub first_part : Framing → Part
first_part framed.Unstated = Length 0
first_part (framed.Length n) = Length n
first_part framed.Chunked = Line 0
