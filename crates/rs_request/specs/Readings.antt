-- What a stream of requests holds after one message and before the next, as a function of its
-- bytes.
use Rattle.std.specs.Prelude.{ℕ, ◌+◌, ◌-◌, ◌++◌, Bool, true, false, not, ◌&&◌, if◌then◌else◌, List, [], length, drop, Option, Some, None, Result, Ok, Err}
use Rattle.std.specs.List.{list_all}
use Rattle.rs_request.specs.declared.fault.WireFault.{WireFault}
use Rattle.rs_request.specs.declared.fault.WireWhy.{WireWhy}
use Rattle.rs_request.specs.declared.fault.WireWhy.TheVariants.{Truncated}
use Rattle.rs_request.specs.declared.fault.NextFault.{NextFault}
use Rattle.rs_request.specs.declared.fault.NextFault.TheVariants.{Wire}
use Rattle.rs_request.specs.declared.message.RequestMessage.{RequestMessage}
use Rattle.rs_request.specs.declared.message.Step.{Step}
use Rattle.rs_request.specs.declared.message.Step.TheVariants.{More, Interim, Message}
use Rattle.rs_request.specs.declared.head.Begun.{Begun}
use Rattle.rs_request.specs.Lines.{is_break}
use Rattle.rs_request.specs.RequestHeads.{head_at}
use Rattle.rs_request.specs.Bodies.{Body, unended, ended, spoiled, fault_at, first_part, body_from}

-- what bytes after a message hold: no whole head, a head that is refused, or a head and what comes
-- of its body
pub data Reading : Type 0 where
  unread : Reading
  refused : WireFault → Reading
  begun : Begun → Body → Reading

abbrev pub reading_by : ℕ → List ℕ → Option (Result (Begun × ℕ) WireWhy) → Reading
reading_by place bytes None = unread
reading_by place bytes (Some (Err why)) = refused (fault_at why place)
reading_by place bytes (Some (Ok h)) =
    begun h.0 (body_from (first_part h.0.framing) [] (place + h.1) (drop h.1 bytes))

-- the same for the bytes from this place in the stream on
unfoldable pub request_reading : ℕ → List ℕ → Reading
request_reading place bytes = reading_by place bytes (head_at place bytes)

-- what a reader was fed: the place of the first byte after the last message, the bytes from there
-- on, whether the interim reply to them was asked for already, and the fault that was answered
pub record Fed : Type 0 where
  pub place : ℕ
  pub bytes : List ℕ
  pub told : Bool
  pub fault : Option WireFault

-- what is due: more bytes, the interim reply, a message that ends before this place, or a fault
pub data Answer : Type 0 where
  more : Answer
  interim : Answer
  message : RequestMessage → ℕ → Answer
  fault : WireFault → Answer

-- the message with this body
abbrev pub with_body : RequestMessage → List ℕ → RequestMessage
with_body m body = record m { body = body }

abbrev pub body_answer : Begun → Body → Answer
body_answer b unended = more
body_answer b (ended body end) = message (with_body b.message body) end
body_answer b (spoiled f) = fault f

-- the interim reply comes once, after the head and before anything else
abbrev pub reading_answer : Bool → Reading → Answer
reading_answer told unread = more
reading_answer told (refused f) = fault f
reading_answer told (begun b body) = if b.expects && not told then interim else body_answer b body

-- a fault that was answered stays
abbrev pub answer_by : Option WireFault → Bool → Reading → Answer
answer_by (Some f) told reading = fault f
answer_by None told reading = reading_answer told reading

-- what is due to a reader that was fed this
unfoldable pub next_of : Fed → Answer
next_of fed = answer_by fed.fault fed.told (request_reading fed.place fed.bytes)

-- what `next` returns then
abbrev pub step_of : Answer → Result Step NextFault
step_of more = Ok More
step_of interim = Ok Interim
step_of (message m end) = Ok (Message m)
step_of (fault f) = Err (Wire f)

-- and what the reader was fed from then on
abbrev pub fed_after : Fed → Answer → Fed
fed_after fed more = fed
fed_after fed interim = record fed { told = true }
fed_after fed (message m end) =
    record { place = end; bytes = drop (end - fed.place) fed.bytes; told = false; fault = None }
fed_after fed (fault f) = record fed { fault = Some f }

-- what a piece adds
abbrev pub fed_with : Fed → List ℕ → Fed
fed_with fed piece = record fed { bytes = fed.bytes ++ piece }

-- nothing was fed
abbrev pub unfed : Fed
unfed = record { place = 0; bytes = []; told = false; fault = None }

-- what `finish` answers: whether bytes other than line ends stand after the last message
abbrev pub finish_by : Option WireFault → ℕ → List ℕ → Result (Unit {0}) WireFault
finish_by (Some f) end bytes = Ok tt
finish_by None end bytes = if list_all is_break bytes then Ok tt else Err (fault_at Truncated end)

unfoldable pub finish_of : Fed → Result (Unit {0}) WireFault
finish_of fed = finish_by fed.fault (fed.place + length fed.bytes) fed.bytes
