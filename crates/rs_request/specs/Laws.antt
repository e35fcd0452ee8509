-- What the laws of written and of read requests speak of.
use Rattle.std.specs.Prelude.{ℕ, ◌+◌, Bool, false, List, [], ◌∷◌, length, None, Result, Ok, Err}
use Rattle.rs_request.specs.declared.fault.WireWhy.{WireWhy}
use Rattle.rs_request.specs.declared.framing.Framing.{Framing}
use Rattle.rs_request.specs.declared.message.RequestMessage.{RequestMessage}
use Rattle.rs_request.specs.Framing.{head_framing, expects_interim}
use Rattle.rs_request.specs.Readings.{Fed}
use Rattle.rs_request.specs.Writing.{request_text}

-- the request at this place in a stream
abbrev pub placed_at : ℕ → RequestMessage → RequestMessage
placed_at place m = record m { place = place }

-- the requests at their places, where they are written one after another from this place on
abbrev pub placed_from : ℕ → List RequestMessage → List RequestMessage
placed_from place [] = []
placed_from place (m ∷ ms) = placed_at place m ∷ placed_from (place + length (request_text m)) ms

-- a reader that was fed these bytes from this place on, and answered no fault
abbrev pub fed_at : ℕ → List ℕ → Bool → Fed
fed_at place bytes told = record { place = place; bytes = bytes; told = told; fault = None }

-- the request's sender waits for the interim reply, where this is the framing of its body
abbrev pub awaits_by : RequestMessage → Result Framing WireWhy → Bool
awaits_by m (Ok framing) = expects_interim m.minor m.fields framing
awaits_by m (Err why) = false

-- the request's sender waits for the interim reply
abbrev pub awaits : RequestMessage → Bool
awaits m = awaits_by m (head_framing m.minor (length m.target) m.fields)
