-- A hall opened over keepers of rows.
use Rattle.std.specs.Prelude.{◌≡◌, ◌≢◌, ℕ, ◌<◌, ◌≤◌, List, [], length, map, slice_index_or, Option, Some, None, IfSome, Ok, Err}
use Rattle.rs_path.specs.declared.log_entry.LogEntry.{LogEntry}
use Rattle.rs_path.specs.Logs.{own}
use Rattle.rs_face.specs.Causes.{Rose}
use Rattle.rs_record.specs.declared.records.Record.{Record}
use Rattle.rs_row.specs.declared.open_fault.OpenFault.{OpenFault}
use Rattle.rs_row.specs.declared.open_fault.OpenFault.TheVariants.{BadRow, Unlawful, KeeperFailed, NoMemory as NoMemoryToOpen}
use Rattle.rs_rules.specs.Histories.{History}
use Rattle.rs_rules.specs.Contents.{Contents}
use Rattle.rs_turn.specs.Origins.{BeginsAs}
use Rattle.rs_turn.specs.Sitting.{Sitting}
use Rattle.rs_user.specs.declared.state.UserState.{UserState}
use Rattle.rs_user.specs.Openings.{opening}
use Rattle.rs_hall.specs.declared.hall_fault.HallFault.{HallFault}
use Rattle.rs_hall.specs.declared.hall_fault.HallFault.TheVariants.{User, NoMemory}
use Rattle.rs_hall.specs.declared.room.Room.{Room}
use Rattle.rs_hall.specs.Abreast.{EachPair}
use Rattle.rs_hall.specs.Halls.{by_user}
use Rattle.rs_hall.specs.Rooms.{IsRoom}

module _ {K : Type 0} (rows : K → Option (List (List ℕ))) (row_count faults : K → ℕ) where
  -- a keeper that was read: it has the rows that it had
  pub record IsKept (old new : K) : Type 0 where
    pub rows_stay : rows new ≡ rows old
    pub as_many : row_count new ≡ row_count old
    pub no_fewer : faults old ≤ faults new

-- rows that aren't opened, for this cause: the first row that spells no record, or whose record no request adds
abbrev pub IsRefusedFor : OpenFault → List (List ℕ) → Type 0
IsRefusedFor (BadRow index place) kept = opening kept ≡ Err (BadRow index place)
IsRefusedFor (Unlawful index) kept = opening kept ≡ Err (Unlawful index)
IsRefusedFor KeeperFailed kept = Unit {0}
IsRefusedFor NoMemoryToOpen kept = ⊥

-- what is told where the user's rows aren't opened for this cause
abbrev pub refusal_of : ℕ → OpenFault → HallFault
refusal_of user (BadRow index place) = User user (BadRow index place)
refusal_of user (Unlawful index) = User user (Unlawful index)
refusal_of user KeeperFailed = User user KeeperFailed
refusal_of user NoMemoryToOpen = NoMemory

-- what the keepers tell of a user's rows
abbrev pub told_of_user : List (Option (List (List ℕ))) → ℕ → Option (List (List ℕ))
told_of_user told user = slice_index_or told user None

-- the user is the first whose rows aren't opened, and this is why; the counts of faults of that user's keeper stand last
pub record IsFirstRefused (told : List (Option (List (List ℕ)))) (user : ℕ) (fault : OpenFault) (before now : ℕ) : Type 0 where
  pub earlier : (other : ℕ) → other < user → IfSome (told_of_user told other) (λ kept. (h : History) × (opening kept ≡ Ok h))
  pub refused : IfSome (told_of_user told user) (IsRefusedFor fault)
  pub cause : fault ≡ KeeperFailed → Rose before now

module _ {K : Type 0} (rows : K → Option (List (List ℕ))) (row_count faults : K → ℕ) where
  -- what a refusal says of the keepers: all of them are there, and have the rows that they had. Want of memory says nothing
  abbrev pub HallRefuses : HallFault → List K → List K → Type 0
  HallRefuses (User user fault) old new =
      (user < length old) × (fault ≢ NoMemoryToOpen) × IsFirstRefused (map rows old) user fault (by_user (map faults old) user) (by_user (map faults new) user)
      × EachPair (IsKept rows row_count faults) old new
  HallRefuses NoMemory old new = Unit {0}

module _ {K T R : Type 0} (tree_stands : T → Contents → Type 0) (rows : K → Option (List (List ℕ))) (row_count : K → ℕ) where
  -- a user's room can be locked: it stands for a list whose entries were there before any seat
  abbrev pub CanBeLocked : Room K T R → Type 0
  CanBeLocked room =
      (list : List (LogEntry Record)) × IsRoom tree_stands rows row_count room list × ((n : ℕ) → 0 < n → own n list ≡ [])

  -- the first seat at a lock that was made with the room: it has number 1, and no entry of its own; its list begins with one
  -- that the room stands for, so with what the told rows spell
  pub record IsFirstSeat (room : Room K T R) (seat : Sitting Record (Room K T R)) : Type 0 where
    pub origin : seat.lock.origin ≡ Some room
    pub who : seat.who ≡ 1
    pub made : seat.made ≡ 1
    pub faults_none : seat.faults ≡ 0
    pub mine : own 1 seat.list ≡ []
    pub started : BeginsAs (IsRoom tree_stands rows row_count) room seat.list

  -- ---- on the way there

  -- the state was opened under the quota over the keeper, whose rows it has
  abbrev pub IsReady : ℕ → K → UserState T R → Type 0
  IsReady quota keeper state = (state.quota ≡ quota) × CanBeLocked (record { state = state; keeper = keeper })

  -- a keeper and a state that can be locked together
  abbrev pub IsLockable : K → UserState T R → Type 0
  IsLockable keeper state = CanBeLocked (record { state = state; keeper = keeper })

  -- the first seat at a lock of the two
  abbrev pub IsFirstOf : UserState T R → K → Sitting Record (Room K T R) → Type 0
  IsFirstOf state keeper seat = IsFirstSeat (record { state = state; keeper = keeper }) seat

module _ {K T R : Type 0} (tree_stands : T → Contents → Type 0) (rows : K → Option (List (List ℕ))) (row_count faults : K → ℕ) where
  -- the user's room was opened under the quota over the keeper, and the seat is the first at its lock
  pub record IsEntrance (quota : ℕ) (keeper : K) (seat : Sitting Record (Room K T R)) : Type 0 where
    pub room : Room K T R
    pub kept : IsKept rows row_count faults keeper room.keeper
    pub quota_is : room.state.quota ≡ quota
    pub first : IsFirstSeat tree_stands rows row_count room seat
