-- One history of all callers: how it grows over a turn of a desk (own).
use Rattle.std.specs.Prelude.{◌≡◌, ℕ, Bool, true, false, ◌++◌, Result, Ok, Err}
use Rattle.rs_path.specs.Logs.{own}
use Rattle.rs_face.specs.Causes.{Rose}
use Rattle.rs_rules.specs.declared.request.Request.{Request}
use Rattle.rs_rules.specs.declared.reply.Reply.{Reply}
use Rattle.rs_rules.specs.declared.reply.Reply.TheVariants.{StoreFailed}
use Rattle.rs_rules.specs.declared.turn.Turn.{Turn}
use Rattle.rs_rules.specs.declared.desk.DeskFault.{DeskFault}
use Rattle.rs_rules.specs.declared.desk.DeskFault.TheVariants.{NoMemory}
use Rattle.rs_rules.specs.Histories.{History, len, with_entries, up_to, IsPoint, IsFront}
use Rattle.rs_rules.specs.Answers.{answer, taken, entry_of}

-- the history goes on to `front` by others' entries, gives the reply there, and then has the record that the request
-- adds, as this desk's
pub record Grows (old new : History) (quota me : ℕ) (r : Request) (reply : Reply) (front : ℕ) : Type 0 where
  pub point : IsPoint front new
  pub before : IsFront old (up_to front new)
  pub replied : reply ≡ answer (up_to front new) quota r
  pub added : new ≡ with_entries (up_to front new) (entry_of me (taken (up_to front new) quota r))
  pub mine : own me new.entries ≡ own me old.entries ++ entry_of me (taken (up_to front new) quota r)

-- the history goes on by others' entries alone
pub record GrowsByOthers (old new : History) (me : ℕ) : Type 0 where
  pub before : IsFront old new
  pub mine : own me new.entries ≡ own me old.entries

-- the reply says that the record could not be kept
abbrev pub is_store_failed : Reply → Bool
is_store_failed StoreFailed = true
is_store_failed reply = false

-- nothing was added where the record could not be kept or memory ran out; nothing at all where the desk is alone
pub record AddsNothing (old new : History) (me : ℕ) (alone : Bool) : Type 0 where
  pub others : GrowsByOthers old new me
  pub still : alone ≡ true → new ≡ old

-- the record could not be kept, and the count of faults rose
pub record NotKept (old new : History) (me : ℕ) (alone : Bool) (before now : ℕ) : Type 0 where
  pub nothing : AddsNothing old new me alone
  pub rose : Rose before now

-- the request was decided; a desk that is alone decides on the history as it was before the turn
pub record Decided (old new : History) (quota me : ℕ) (alone : Bool) (r : Request) (turn : Turn) : Type 0 where
  pub grows : Grows old new quota me r turn.reply turn.front
  pub now : alone ≡ true → turn.front ≡ len old

-- what a turn that answered has done: whether it could not keep the record is the first argument
abbrev pub TurnedBy : Bool → History → History → ℕ → ℕ → Bool → Request → Turn → ℕ → ℕ → Type 0
TurnedBy true old new quota me alone r turn before now = NotKept old new me alone before now
TurnedBy false old new quota me alone r turn before now = Decided old new quota me alone r turn

-- what a turn has done to its user's history, and to the count of faults
abbrev pub Turned : History → History → ℕ → ℕ → Bool → Request → Result Turn DeskFault → ℕ → ℕ → Type 0
Turned old new quota me alone r (Err NoMemory) before now = AddsNothing old new me alone
Turned old new quota me alone r (Ok turn) before now =
    TurnedBy (is_store_failed turn.reply) old new quota me alone r turn before now
