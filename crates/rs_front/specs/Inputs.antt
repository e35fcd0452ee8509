-- The bytes of a source, read piece by piece.
use Rattle.std.specs.Prelude.{◌≡◌, ℕ, ◌+◌, ◌-◌, ◌<◌, ◌≤◌, ◌⊎◌, ⊤, Bool, true, false, List, [], ◌++◌, length, drop, Option, Some, None, Result, Ok, Err}
use Rattle.std.specs.Io.KnownBytes.{Consumes, Appends, IsAtEnd}
use Rattle.rs_face.specs.Causes.{Rose}
use Rattle.rs_face.specs.Told.{AppendsFront}
use Rattle.rs_request.specs.declared.fault.WireFault.{WireFault}
use Rattle.rs_request.specs.Limits.{max_message}
use Rattle.rs_request.specs.declared.message.Step.TheVariants.{Message}
use Rattle.rs_request.specs.declared.reader.RequestReader.{RequestReader}
use Rattle.rs_request.specs.Division.{message_at}
use Rattle.rs_request.specs.Laws.{fed_at}
use Rattle.rs_request.specs.Readers.{Stands}
use Rattle.rs_request.specs.Readings.{Fed, fed_with, more, interim, fault, next_of, step_of, finish_of}
use Rattle.rs_front.specs.declared.input.Filled.{Filled}
use Rattle.rs_front.specs.declared.input.Filled.TheVariants.{More, End, Failed, NoMemory}
use Rattle.rs_front.specs.declared.input.Next.{Next}
use Rattle.rs_front.specs.declared.input.Next.TheVariants as next
use Rattle.rs_face.specs.Courses.{Course}
use Rattle.rs_front.specs.Due.{interim_of}
use Rattle.rs_front.specs.Rests.{after_last, pending, HasFault}
use Rattle.rs_front.specs.Sending.{IsCutOff, end_of}

-- the most bytes that one read gives
abbrev pub read_size : ℕ
read_size = 8192

-- what one read brought: the piece was fed; or the input is at its end, or failed, and nothing was; or memory was wanted
abbrev pub Brings : Fed → RequestReader → List ℕ → Option (List ℕ) → ℕ → ℕ → Filled → Type 0
Brings fed new piece left before now More = Stands new (fed_with fed piece) × (0 < length piece)
Brings fed new piece left before now End = Stands new fed × (piece ≡ []) × IsAtEnd left
Brings fed new piece left before now Failed = Stands new fed × (piece ≡ []) × Rose before now
Brings fed new piece left before now NoMemory = Stands new fed

-- one read of a source, whose count of faults is then now
pub record Fills (fed : Fed) (new : RequestReader) (left left' : Option (List ℕ)) (before now : ℕ) (outcome : Filled) : Type 0 where
  pub piece : List ℕ
  pub consumed : Consumes left left' piece
  pub room : length piece ≤ read_size
  pub brings : Brings fed new piece left' before now outcome

-- what comes where the input has ended
abbrev pub ending : Result (Unit {0}) WireFault → Next
ending (Ok nothing) = next.End
ending (Err f) = next.Bad f

-- what comes next of the bytes from this place on, where the interim reply was told or not: None where it is due
abbrev pub ComesOn : ℕ → List ℕ → Bool → RequestReader → Course (List ℕ) → Option Next → Type 0
ComesOn place rest told new source None = (next_of (fed_at place rest told) ≡ interim) × Stands new (fed_at place rest true)
ComesOn place rest told new source (Some (next.Message m)) =
    (end : ℕ) × (message_at place rest ≡ Some (m, end)) × (step_of (next_of (fed_at place rest told)) ≡ Ok (Message m))
    × Stands new (fed_at end (drop (end - place) rest) false)
ComesOn place rest told new source (Some next.End) =
    (next_of (fed_at place rest told) ≡ more) × IsAtEnd source.new × (finish_of (fed_at place rest told) ≡ Ok tt)
ComesOn place rest told new source (Some (next.Bad f)) =
    (next_of (fed_at place rest told) ≡ fault f)
    ⊎ ((next_of (fed_at place rest told) ≡ more) × IsAtEnd source.new × (finish_of (fed_at place rest told) ≡ Err f))
ComesOn place rest told new source (Some next.NotRead) = (next_of (fed_at place rest told) ≡ more) × Rose source.before source.now
ComesOn place rest told new source (Some next.NoMemory) = ⊤
ComesOn place rest told new source (Some (next.NotWritten e)) = ⊥

-- of these bytes from a place on, the last read wasn't made too early: without what it brought, more was needed. Or they are
-- fewer than one read gives, and came with a message before
pub record IsLazy (place : ℕ) (told : Bool) (bytes : List ℕ) : Type 0 where
  pub before : List ℕ
  pub last : List ℕ
  pub whole : bytes ≡ before ++ last
  pub room : length last ≤ read_size
  pub needed : ((before ≡ []) × (length last < read_size)) ⊎ (next_of (fed_at place before told) ≡ more)

-- of these bytes nothing was read behind those that were there, or no read was made too early
abbrev pub IsReadLazily : ℕ → Bool → List ℕ → List ℕ → Type 0
IsReadLazily place told bytes read = (read ≡ []) ⊎ IsLazy place told (bytes ++ read)

-- the most bytes that are read on from a place
abbrev pub most_read : ℕ
most_read = max_message + read_size

-- reading on from a place, behind bytes that came before
pub record ReadsOn (place : ℕ) (bytes : List ℕ) (told : Bool) (new : RequestReader) (source : Course (List ℕ)) (outcome : Option Next) : Type 0 where
  pub read : List ℕ
  pub consumed : Consumes source.old source.new read
  pub comes : ComesOn place (bytes ++ read) told new source outcome
  pub lazy : IsReadLazily place told bytes read

-- what comes next of the bytes from this place on: the next message; the end of the input; a fault; or why reading can't go on.
-- What is written before it is the interim reply, where that is due
abbrev pub Comes : ℕ → List ℕ → RequestReader → Course (List ℕ) → Course (List ℕ) → Course (List ℕ) → Next → Type 0
Comes place rest new source sink wants (next.Message m) =
    (end : ℕ) × (message_at place rest ≡ Some (m, end)) × Stands new (fed_at end (drop (end - place) rest) false)
    × Appends sink.old sink.new (interim_of m)
Comes place rest new source sink wants next.End =
    (after_last place rest ≡ more) × IsAtEnd source.new × (finish_of (fed_at place rest true) ≡ Ok tt) × Appends sink.old sink.new []
Comes place rest new source sink wants (next.Bad f) = HasFault source.new place rest f × Appends sink.old sink.new (pending place rest)
Comes place rest new source sink wants next.NotRead =
    (after_last place rest ≡ more) × Rose source.before source.now × Appends sink.old sink.new (pending place rest)
Comes place rest new source sink wants next.NoMemory =
    Appends sink.old sink.new [] ⊎ Appends sink.old sink.new (pending place rest)
Comes place rest new source sink wants (next.NotWritten e) =
    AppendsFront sink.old sink.new (pending place rest) × IsCutOff sink wants (end_of e)

-- a message was read no further than one read's end, and the interim reply was due as soon as the head was whole
abbrev pub IsReadInTime : ℕ → List ℕ → Next → Type 0
IsReadInTime place rest (next.Message m) = (told : Bool) × IsLazy place told rest
IsReadInTime place rest (next.NotWritten e) = IsLazy place false rest
IsReadInTime place rest other = ⊤

-- reading up to the next message. The counts of the sink's wants of memory stand apart from those of its faults
pub record ReadsNext (place : ℕ) (bytes : List ℕ) (new : RequestReader) (source sink wants : Course (List ℕ)) (outcome : Next) : Type 0 where
  pub read : List ℕ
  pub consumed : Consumes source.old source.new read
  pub comes : Comes place (bytes ++ read) new source sink wants outcome
  pub in_time : length bytes < read_size → IsReadInTime place (bytes ++ read) outcome

-- the reader was fed bytes behind the last message, and the interim reply wasn't told
abbrev pub IsBetween : RequestReader → Type 0
IsBetween r = (place : ℕ) × (bytes : List ℕ) × Stands r (fed_at place bytes false)

-- the same, where that reply may have been told
abbrev pub IsReading : RequestReader → Type 0
IsReading r = (place : ℕ) × (bytes : List ℕ) × (told : Bool) × Stands r (fed_at place bytes told)
