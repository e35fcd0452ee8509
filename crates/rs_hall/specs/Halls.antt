-- The seats of a hall, one for each user, in the order of users.
use Rattle.std.specs.Prelude.{◌≡◌, ◌≢◌, ℕ, ◌+◌, ◌≤◌, List, [], ◌∷◌, map, slice_index_or, Option, Some, None}
use Rattle.rs_path.specs.declared.log_entry.LogEntry.{LogEntry}
use Rattle.rs_path.specs.Logs.{StartsWith, own}
use Rattle.rs_turn.specs.Sitting.{Lock, Sitting}
use Rattle.rs_hall.specs.declared.room.Room.{Room}

-- a number by user, from a list
abbrev pub by_user : List ℕ → ℕ → ℕ
by_user numbers user = slice_index_or numbers user 0

module _ {W V : Type 0} where
  -- the lock of each user
  abbrev pub locks_of : List (Sitting W V) → List (Lock V)
  locks_of seats = map (λ (s : Sitting W V). s.lock) seats

  -- the number of the seat of each user
  abbrev pub numbers_of : List (Sitting W V) → List ℕ
  numbers_of seats = map (λ (s : Sitting W V). s.who) seats

  -- the list that the seat of each user has seen
  abbrev pub lists_of : List (Sitting W V) → List (List (LogEntry W))
  lists_of seats = map (λ (s : Sitting W V). s.list) seats

  -- the list that the user's seat has seen
  abbrev pub list_at : List (Sitting W V) → ℕ → List (LogEntry W)
  list_at seats user = slice_index_or (lists_of seats) user []

  -- how many turns of all seats have failed
  abbrev pub faults_in : List (Sitting W V) → ℕ
  faults_in [] = 0
  faults_in (s ∷ seats) = s.faults + faults_in seats

  -- the second seats are the first some turns later: of the same locks, with the same numbers; each list begins with the one
  -- before, and no failure is forgotten
  pub record AreLater (old new : List (Sitting W V)) : Type 0 where
    pub locks : locks_of new ≡ locks_of old
    pub numbers : numbers_of new ≡ numbers_of old
    pub lists : (user : ℕ) → StartsWith (list_at new user) (list_at old user)
    pub no_fewer : faults_in old ≤ faults_in new

  -- the second seats are the first after that of the user has met another: it has seen no fewer entries, and the same ones under
  -- its own number; the other seats have seen what they had
  pub record HasMet (old new : List (Sitting W V)) (user : ℕ) : Type 0 where
    pub later : AreLater old new
    pub mine : own (by_user (numbers_of old) user) (list_at new user) ≡ own (by_user (numbers_of old) user) (list_at old user)
    pub others : (other : ℕ) → other ≢ user → list_at new other ≡ list_at old other

module _ {K T R : Type 0} where
  -- the quota of a room that a lock was made with
  abbrev pub quota_of_origin : Option (Room K T R) → ℕ
  quota_of_origin None = 0
  quota_of_origin (Some room) = room.state.quota

  -- the quotas of the users, by their locks
  abbrev pub quotas_of : List (Lock (Room K T R)) → List ℕ
  quotas_of locks = map (λ (l : Lock (Room K T R)). quota_of_origin l.origin) locks
