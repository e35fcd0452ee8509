-- What a reader of requests stands for.
use Rattle.std.specs.Prelude.{◌≡◌, ◌≤◌, ◌<◌, ℕ, ◌+◌, ◌-◌, ◌^◌, false, List, ◌++◌, length, take, drop, Option, Some, None, Result, Ok, Err}
use Rattle.std.specs.List.{list_all}
use Rattle.rs_request.specs.declared.fault.NextFault.{NextFault}
use Rattle.rs_request.specs.declared.fault.NextFault.TheVariants.{Wire, NoMemory}
use Rattle.rs_request.specs.declared.message.Step.{Step}
use Rattle.rs_request.specs.declared.search.Search.{Search}
use Rattle.rs_request.specs.declared.search.Spot.TheVariants.{Before}
use Rattle.rs_request.specs.declared.reader.Opened.{Opened}
use Rattle.rs_request.specs.declared.reader.Stage.{Stage}
use Rattle.rs_request.specs.declared.reader.Stage.TheVariants.{Head, Body, Stopped}
use Rattle.rs_request.specs.declared.reader.RequestReader.{RequestReader}
use Rattle.rs_request.specs.Limits.{max_head}
use Rattle.rs_request.specs.Lines.{is_break}
use Rattle.rs_request.specs.Sought.{IsSought}
use Rattle.rs_request.specs.BodyReaders.{IsPartAt, reader_body}
use Rattle.rs_request.specs.Readings.{begun, request_reading, Fed, next_of, step_of, fed_after}

-- the reader is between messages or inside a head
pub record StandsAtHead (search : Search) (taken : ℕ) (left : List ℕ) (fed : Fed) : Type 0 where
  pub whole : fed.fault ≡ None
  pub told : fed.told ≡ false
  pub place : fed.place ≡ taken
  pub bytes : fed.bytes ≡ left
  pub sought : IsSought Before search (take max_head left)

-- the reader took a head and perhaps some of its body
pub record StandsInBody (opened : Opened) (taken : ℕ) (left : List ℕ) (fed : Fed) : Type 0 where
  pub whole : fed.fault ≡ None
  pub told : fed.told ≡ opened.told
  pub ahead : fed.place ≤ taken
  pub rest : left ≡ drop (taken - fed.place) fed.bytes
  pub some : list_all is_break fed.bytes ≡ false
  pub same : (more : List ℕ)
      → request_reading fed.place (fed.bytes ++ more)
      ≡ begun opened.begun (reader_body opened.reader taken (left ++ more))
  pub fits : IsPartAt opened.reader.part left

abbrev pub StandsAt : Stage → ℕ → List ℕ → Fed → Type 0
StandsAt (Head search) taken left fed = StandsAtHead search taken left fed
StandsAt (Body opened) taken left fed = StandsInBody opened taken left fed
StandsAt (Stopped f) taken left fed = fed.fault ≡ Some f

-- the same at each stage, with the number of bytes that were fed in all
pub record IsFed (stage : Stage) (taken : ℕ) (left : List ℕ) (fed : Fed) : Type 0 where
  pub count : taken + length left ≡ fed.place + length fed.bytes
  pub small : taken + length left < 2 ^ 64
  pub stands : StandsAt stage taken left fed

-- the reader stands for what it was fed: what it answers from now on is a function of that
unfoldable pub Stands : RequestReader → Fed → Type 0
Stands r fed = IsFed r.stage r.taken r.buffer fed

-- how many bytes the reader was fed in all
unfoldable pub fed_count : RequestReader → ℕ
fed_count r = r.taken + length r.buffer

-- what `next` leaves and returns: what is due, or nothing for want of memory
abbrev pub Nexts : Fed → RequestReader → Result Step NextFault → Type 0
Nexts fed new (Ok step) =
    (step_of (next_of fed) ≡ Ok step) × Stands new (fed_after fed (next_of fed))
Nexts fed new (Err (Wire f)) =
    (step_of (next_of fed) ≡ Err (Wire f)) × Stands new (fed_after fed (next_of fed))
Nexts fed new (Err NoMemory) = Stands new fed

-- the same of one turn, which may only have come closer
abbrev pub IsReaderTurn : Fed → RequestReader → Result (Option Step) NextFault → Type 0
IsReaderTurn fed new (Ok None) = Stands new fed
IsReaderTurn fed new (Ok (Some step)) =
    (step_of (next_of fed) ≡ Ok step) × Stands new (fed_after fed (next_of fed))
IsReaderTurn fed new (Err (Wire f)) =
    (step_of (next_of fed) ≡ Err (Wire f)) × Stands new (fed_after fed (next_of fed))
IsReaderTurn fed new (Err NoMemory) = Stands new fed
