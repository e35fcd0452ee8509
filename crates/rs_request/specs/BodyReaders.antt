-- What a reader of a body does with the bytes that it is given.
use Rattle.std.specs.Prelude.{◌≡◌, ◌≤◌, ◌<◌, ℕ, ◌+◌, List, ◌++◌, length, take, drop, None, ⊤}
use Rattle.rs_request.specs.declared.body.Part.{Part}
use Rattle.rs_request.specs.declared.body.Part.TheVariants.{Length, Line, Data, Trailer}
use Rattle.rs_request.specs.declared.body.Move.{Move}
use Rattle.rs_request.specs.declared.body.Move.TheVariants as move
use Rattle.rs_request.specs.declared.body.BodyReader.{BodyReader}
use Rattle.rs_request.specs.declared.search.Spot.TheVariants.{Fresh}
use Rattle.rs_request.specs.Limits.{max_chunk_line, max_trailer}
use Rattle.rs_request.specs.Lines.{first_line}
use Rattle.rs_request.specs.Sought.{IsSought}
use Rattle.rs_request.specs.Bodies.{Body, unended, ended, spoiled, body_from}

-- no LF among the first bytes
pub record IsLineSought (sought : ℕ) (rest : List ℕ) : Type 0 where
  pub low : sought ≤ max_chunk_line
  pub within : sought ≤ length rest
  pub unfound : first_line (take sought rest) ≡ None

-- what a part remembers of its search is true of the bytes
abbrev pub IsPartAt : Part → List ℕ → Type 0
IsPartAt (Length n) rest = ⊤
IsPartAt (Line sought) rest = IsLineSought sought rest
IsPartAt (Data n) rest = ⊤
IsPartAt (Trailer search) rest = IsSought Fresh search (take max_trailer rest)

-- the reader holds the same bytes and stands at the same part
pub record IsSameBody (old new : BodyReader) : Type 0 where
  pub body : new.body.items ≡ old.body.items
  pub part : new.part ≡ old.part

-- what the reader stands at, and what comes of it with these bytes
abbrev pub reader_body : BodyReader → ℕ → List ℕ → Body
reader_body r at rest = body_from r.part r.body.items at rest

-- the reader took n bytes and comes to the same, whatever follows
pub record Moves (old new : BodyReader) (at n : ℕ) (rest : List ℕ) : Type 0 where
  pub within : n ≤ length rest
  pub same : (more : List ℕ)
      → reader_body old at (rest ++ more) ≡ reader_body new (at + n) (drop n rest ++ more)
  pub fits : IsPartAt new.part (drop n rest)

-- what each answer says
abbrev pub IsMove : BodyReader → BodyReader → ℕ → List ℕ → Move → Type 0
IsMove old new at rest (move.Wait n) = Moves old new at n rest × (reader_body old at rest ≡ unended)
IsMove old new at rest (move.On n) = Moves old new at n rest × (0 < n)
IsMove old new at rest (move.End n) =
    (n ≤ length rest) × (reader_body old at rest ≡ ended new.body.items (at + n))
IsMove old new at rest (move.Fault fault) = reader_body old at rest ≡ spoiled fault

-- a move takes bytes that there are, and goes on only after some
abbrev pub IsMoveWithin : List ℕ → Move → Type 0
IsMoveWithin rest (move.Wait n) = n ≤ length rest
IsMoveWithin rest (move.On n) = (0 < n) × (n ≤ length rest)
IsMoveWithin rest (move.End n) = n ≤ length rest
IsMoveWithin rest (move.Fault fault) = ⊤
