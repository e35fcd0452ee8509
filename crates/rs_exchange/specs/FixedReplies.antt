-- Replies that are always the same: the interim reply, the one for want of memory, and those to bytes that are no request
-- (RFC 9110, section 15; RFC 6585, section 5).
use Rattle.std.specs.Prelude.{ℕ, Bool, List, [], ◌∷◌, Option, Some, None, codes}
use Rattle.rs_request.specs.declared.fault.WireWhy.{WireWhy}
use Rattle.rs_request.specs.declared.fault.WireWhy.TheVariants.{BadHead, HeadLong, TargetLong, BodyLong, BadLength, TwoLengths, BadChunk, Coding, Truncated}
use Rattle.rs_request.specs.declared.field.Field.{Field}
use Rattle.rs_reply.specs.declared.message.ReplyMessage.{ReplyMessage}
use Rattle.rs_reply.specs.Writing.{reply_text}
use Rattle.rs_exchange.specs.Replies.{origin_field, exposed_field, close_field, close_fields}

-- that there is no body
abbrev pub empty_field : Field
empty_field = record { name = codes "Content-Length"; value = codes "0" }

-- the interim reply (RFC 9110, section 15.2.1)
abbrev pub interim_message : ReplyMessage
interim_message = record { status = 100; fields = []; body = [] }

-- the reply for want of memory (RFC 9110, section 15.6.4)
abbrev pub starved_message : Bool → ReplyMessage
starved_message closing = record { status = 503; fields = origin_field ∷ empty_field ∷ close_fields closing; body = [] }

-- a reply that closes, to bytes that are no request
abbrev pub closing_message : ℕ → ReplyMessage
closing_message status = record { status = status; fields = origin_field ∷ exposed_field ∷ empty_field ∷ close_field ∷ []; body = [] }

-- the status of the reply to a fault, where there is one
abbrev pub fault_status : WireWhy → Option ℕ
fault_status BadHead = Some 400
fault_status HeadLong = Some 431
fault_status TargetLong = Some 414
fault_status BodyLong = Some 413
fault_status BadLength = Some 400
fault_status TwoLengths = Some 400
fault_status BadChunk = Some 400
fault_status Coding = Some 501
fault_status Truncated = None

-- their bytes; there are none where the input was cut short
unfoldable pub interim_bytes : List ℕ
interim_bytes = reply_text interim_message

unfoldable pub starved_bytes : Bool → List ℕ
starved_bytes closing = reply_text (starved_message closing)

unfoldable pub closing_bytes : ℕ → List ℕ
closing_bytes status = reply_text (closing_message status)

abbrev pub closing_texts : Option ℕ → List ℕ
closing_texts None = []
closing_texts (Some status) = closing_bytes status

abbrev pub fault_bytes : WireWhy → List ℕ
fault_bytes why = closing_texts (fault_status why)
