-- Seats of a hall, split: one seat more at the lock of each user.
use Rattle.std.specs.Prelude.{◌≡◌, ℕ, ◌≤◌, List, ◌∷◌}
use Rattle.rs_turn.specs.declared.seat_fault.SeatFault.{SeatFault}
use Rattle.rs_turn.specs.declared.seat_fault.SeatFault.TheVariants.{Full as SeatsFull}
use Rattle.rs_turn.specs.Limits.{max_seats}
use Rattle.rs_turn.specs.Sitting.{Sitting, IsSplitFrom}
use Rattle.rs_hall.specs.declared.split_fault.SplitFault.{SplitFault}
use Rattle.rs_hall.specs.declared.split_fault.SplitFault.TheVariants.{Full, NoMemory}

-- what is told where a user's lock has no seat left
abbrev pub split_fault_of : SeatFault → SplitFault
split_fault_of (SeatsFull made) = Full made

module _ {W V : Type 0} where
  -- the seat as it was, which may know of more seats of its lock
  pub record KnowsMore (old new : Sitting W V) : Type 0 where
    pub same : new ≡ record old { made = new.made }
    pub more : old.made ≤ new.made

  -- the lock of some user has no seat left, since so many are numbered, and is the first such: a seat was split off that of each
  -- user before
  pub data IsFirstFull (made : ℕ) : List (Sitting W V) → List (Sitting W V) → Type 0 where
    full_here : {old new : Sitting W V} {olds news : List (Sitting W V)} → new.made ≡ made → max_seats ≤ made
        → IsFirstFull made (old ∷ olds) (new ∷ news)
    full_later : {old new : Sitting W V} {olds news : List (Sitting W V)} (seat : Sitting W V) → IsSplitFrom old new seat
        → IsFirstFull made olds news → IsFirstFull made (old ∷ olds) (new ∷ news)

  -- what a refusal says of the seats before and after: where memory ran out they are as they were
  abbrev pub SplitRefuses : SplitFault → List (Sitting W V) → List (Sitting W V) → Type 0
  SplitRefuses (Full made) old new = IsFirstFull made old new
  SplitRefuses NoMemory old new = new ≡ old
