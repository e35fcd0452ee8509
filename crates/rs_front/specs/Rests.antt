-- What the bytes behind the last message come to.
use Rattle.std.specs.Prelude.{◌≡◌, ℕ, ◌⊎◌, true, false, List, [], Option, Err}
use Rattle.std.specs.Io.KnownBytes.{IsAtEnd}
use Rattle.rs_request.specs.declared.fault.WireFault.{WireFault}
use Rattle.rs_request.specs.Laws.{fed_at}
use Rattle.rs_request.specs.Readings.{Answer, more, interim, message, fault, next_of, finish_of}
use Rattle.rs_exchange.specs.FixedReplies.{interim_bytes}

-- what the bytes from the place on come to, where the interim reply isn't told again
abbrev pub after_last : ℕ → List ℕ → Answer
after_last place rest = next_of (fed_at place rest true)

abbrev pub interim_by : Answer → List ℕ
interim_by more = []
interim_by interim = interim_bytes
interim_by (message m end) = []
interim_by (fault f) = []

-- the interim reply to a message that didn't come whole, where its head asks for it
abbrev pub pending : ℕ → List ℕ → List ℕ
pending place rest = interim_by (next_of (fed_at place rest false))

-- the bytes from the place on hold this fault, or are cut short in a message, where a source that has so much left is at its end
abbrev pub HasFault : Option (List ℕ) → ℕ → List ℕ → WireFault → Type 0
HasFault left place rest f =
    (after_last place rest ≡ fault f)
    ⊎ ((after_last place rest ≡ more) × IsAtEnd left × (finish_of (fed_at place rest true) ≡ Err f))
