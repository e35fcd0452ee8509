-- The messages of a stream of requests.
use Rattle.std.specs.Prelude.{◌≡◌, ℕ, ◌-◌, false, List, [], ◌∷◌, drop, Option, Some, None}
use Rattle.rs_request.specs.declared.message.RequestMessage.{RequestMessage}
use Rattle.rs_request.specs.Bodies.{unended, ended, spoiled}
use Rattle.rs_request.specs.Readings.{Reading, unread, refused, begun, request_reading, Fed, with_body}

-- the message that was read to its end, and the place after it
abbrev pub message_by : Reading → Option (RequestMessage × ℕ)
message_by unread = None
message_by (refused f) = None
message_by (begun b unended) = None
message_by (begun b (ended body end)) = Some (with_body b.message body, end)
message_by (begun b (spoiled f)) = None

-- the first message of the bytes from this place in the stream on, where it is whole
unfoldable pub message_at : ℕ → List ℕ → Option (RequestMessage × ℕ)
message_at place bytes = message_by (request_reading place bytes)

-- the bytes from a place on are these messages, one after another, and then the rest from its place
-- on
abbrev pub Divides : ℕ → List ℕ → List RequestMessage → ℕ → List ℕ → Type 0
Divides place bytes [] end rest = (end ≡ place) × (rest ≡ bytes)
Divides place bytes (m ∷ ms) end rest =
    (next : ℕ) × (message_at place bytes ≡ Some (m, next))
    × Divides next (drop (next - place) bytes) ms end rest

-- what a reader was fed once a message that ends before this place was given
abbrev pub fed_next : Fed → ℕ → Fed
fed_next fed next =
    record { place = next; bytes = drop (next - fed.place) fed.bytes; told = false; fault = None }
