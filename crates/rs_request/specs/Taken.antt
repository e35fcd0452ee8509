-- What bytes spell of requests, one after another.
use Rattle.std.specs.Prelude.{◌≡◌, ℕ, ◌+◌, List, [], ◌∷◌, ◌++◌, length}
use Rattle.rs_request.specs.declared.message.RequestMessage.{RequestMessage}
use Rattle.rs_request.specs.Spelling.{SpellsRequest}

-- the bytes from this place on begin with a spelling of the request, which ends before the next
-- place
pub record BeginsWithRequest (place : ℕ) (bytes : List ℕ) (m : RequestMessage) (next : ℕ) : Type 0
  where
    pub text : List ℕ
    pub rest : List ℕ
    pub whole : bytes ≡ text ++ rest
    pub end : next ≡ place + length text
    pub spells : SpellsRequest place m text

-- the bytes from a place on are spellings of these requests, one after another, and then the rest
-- from its place on
abbrev pub SpellsAll : ℕ → List ℕ → List RequestMessage → ℕ → List ℕ → Type 0
SpellsAll place bytes [] end rest = (end ≡ place) × (rest ≡ bytes)
SpellsAll place bytes (m ∷ ms) end rest =
    (text : List ℕ) × (later : List ℕ) × (bytes ≡ text ++ later) × SpellsRequest place m text
    × SpellsAll (place + length text) later ms end rest
