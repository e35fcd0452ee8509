-- Posts at work over the seats of a hall.
use Rattle.std.specs.Prelude.{◌≡◌, ◌≢◌, ℕ, ◌+◌, ◌<◌, ◌≤◌, ◌||◌, ⊤, Bool, true, false, List, [], ◌∷◌, ◌++◌, length, map, reverse, Option, Some, None, All}
use Rattle.rs_path.specs.Logs.{StartsWith}
use Rattle.rs_record.specs.declared.records.Record.{Record}
use Rattle.rs_rules.specs.Histories.{History}
use Rattle.rs_turn.specs.Sitting.{Lock, Sitting, IsSplitFrom}
use Rattle.rs_exchange.specs.declared.account.Config.{Config}
use Rattle.rs_exchange.specs.Accounts.{IsAccount}
use Rattle.rs_hall.specs.declared.room.Room.{Room}
use Rattle.rs_hall.specs.Halls.{by_user, locks_of, numbers_of, list_at, faults_in, quotas_of, AreLater}
use Rattle.rs_hall.specs.Rooms.{history_of}
use Rattle.rs_hall.specs.Abreast.{EachPair, EachTriple}
use Rattle.rs_hall.specs.Splits.{KnowsMore}
use Rattle.rs_work.specs.declared.worker.WorkerEnd.{WorkerEnd}
use Rattle.rs_serve.specs.declared.post.Post.{Post}
use Rattle.rs_serve.specs.declared.worker.Worker.{Worker}
use Rattle.rs_serve.specs.declared.tally.Tally.{Tally}
use Rattle.rs_serve.specs.Runs.{Tellings, PostRun, IsRunOf}
use Rattle.rs_serve.specs.OneHistories.{SawFronts}
use Rattle.rs_serve.specs.Servings.{RunsOfAll}

-- this holds of every element
abbrev pub Every : {A : Type 0} → (A → Type 0) → List A → Type 0
Every Holds [] = ⊤
Every Holds (x ∷ xs) = Holds x × Every Holds xs

module _ {K T R : Type 0} where
  -- what a post did over these seats, which it left so, and for these histories then
  abbrev pub run_at : Bool → List (Sitting Record (Room K T R)) → List (Sitting Record (Room K T R)) → (ℕ → History) → WorkerEnd → PostRun
  run_at has_seats seats seats' now end = record {
    has_seats = has_seats;
    me = by_user (numbers_of seats);
    start = λ user. history_of (list_at seats user);
    now = now;
    before = faults_in seats;
    after = faults_in seats';
    end = end;
  }

module _ {N E S W K T R : Type 0} (tells : Tellings N E S W) (config : Config) where
  -- the post served its connections over these seats, and left them so
  pub record RunsAt (has_seats : Bool) (old new : Post N E) (seats seats' : List (Sitting Record (Room K T R))) (end : WorkerEnd) : Type 0 where
    pub now : ℕ → History
    pub lists : (user : ℕ) → IsAccount config.accounts user → now user ≡ history_of (list_at seats' user)
    pub run : IsRunOf tells config (quotas_of (locks_of seats)) old new (run_at has_seats seats seats' now end)
    pub later : AreLater seats seats'

module _ {X V : Type 0} where
  -- how many seats the seat of each user knows of
  abbrev pub mades_of : List (Sitting X V) → List ℕ
  mades_of seats = map (λ (s : Sitting X V). s.made) seats

  -- these seats have seen of each user what the others have
  abbrev pub HasSeen : List (Sitting X V) → List (Sitting X V) → Type 0
  HasSeen seats others = (user : ℕ) → user < length seats → StartsWith (list_at seats user) (list_at others user)

module _ {N E S W K T R D : Type 0} (tells : Tellings N E S W) (config : Config) where
  -- the worker was served over the desk, if that is one; otherwise it is as before
  abbrev pub ServedOver : Option D → Worker (Post N E) D → Worker (Post N E) D → (D → List (Sitting Record (Room K T R))) → Type 0
  ServedOver None old new seats_of = new ≡ old
  ServedOver (Some desk) old new seats_of =
      (left : D) × (new.desk ≡ Some left) × RunsAt tells config true old.post new.post (seats_of desk) (seats_of left) new.end

  -- each worker was served over its own desk, if it has one
  abbrev pub AllServed : List (Worker (Post N E) D) → List (Worker (Post N E) D) → (D → List (Sitting Record (Room K T R))) → Type 0
  AllServed old new seats_of = EachPair (λ (w w' : Worker (Post N E) D). ServedOver w.desk w w' seats_of) old new

  -- the worker was served over these seats, which were left so, where it has no desk of its own; otherwise all is as before
  abbrev pub LateOver : Option D → Worker (Post N E) D → Worker (Post N E) D → List (Sitting Record (Room K T R)) → List (Sitting Record (Room K T R)) → Type 0
  LateOver None old new seats seats' = (new.desk ≡ None) × RunsAt tells config false old.post new.post seats seats' new.end
  LateOver (Some desk) old new seats seats' = (new ≡ old) × (seats' ≡ seats)

  -- those without a desk of their own were served over these seats, one after another
  pub data AllLate : List (Worker (Post N E) D) → List (Worker (Post N E) D) → List (Sitting Record (Room K T R)) → List (Sitting Record (Room K T R)) → Type 0 where
    none_late : {seats : List (Sitting Record (Room K T R))} → AllLate [] [] seats seats
    one_late : {old new : Worker (Post N E) D} {olds news : List (Worker (Post N E) D)} {seats between seats' : List (Sitting Record (Room K T R))}
        → LateOver old.desk old new seats between → AllLate olds news between seats' → AllLate (old ∷ olds) (new ∷ news) seats seats'

-- the posts of workers
abbrev pub posts_of : {P D : Type 0} → List (Worker P D) → List P
posts_of {P} {D} workers = map (λ (w : Worker P D). w.post) workers

module _ {D X V : Type 0} where
  -- the desk, if there is one, is of the hall with these locks
  abbrev pub IsOfHall : List (Lock V) → Option D → (D → List (Sitting X V)) → Type 0
  IsOfHall locks None seats_of = ⊤
  IsOfHall locks (Some desk) seats_of = locks_of (seats_of desk) ≡ locks

  -- the seats have seen what those of the desk have, if there is one
  abbrev pub HasSeenDesk : List (Sitting X V) → Option D → (D → List (Sitting X V)) → Type 0
  HasSeenDesk seats None seats_of = ⊤
  HasSeenDesk seats (Some desk) seats_of = HasSeen seats (seats_of desk)

  -- the seats of the desk, if there is one, have numbers above the first ones', and none above what these know of
  abbrev pub IsNumberedWithin : List (Sitting X V) → Option D → (D → List (Sitting X V)) → Type 0
  IsNumberedWithin first None seats_of = ⊤
  IsNumberedWithin first (Some desk) seats_of = (user : ℕ) → user < length first
      → (by_user (numbers_of first) user < by_user (numbers_of (seats_of desk)) user)
      × (by_user (numbers_of (seats_of desk)) user ≤ by_user (mades_of first) user)

  -- two desks have other numbers for each user
  abbrev pub IsNumberedApart : ℕ → Option D → Option D → (D → List (Sitting X V)) → Type 0
  IsNumberedApart users None other seats_of = ⊤
  IsNumberedApart users (Some desk) None seats_of = ⊤
  IsNumberedApart users (Some desk) (Some other) seats_of = (user : ℕ) → user < users
      → by_user (numbers_of (seats_of desk)) user ≢ by_user (numbers_of (seats_of other)) user

  -- the desk, if there is one, is of the hall with these locks, over seats that are split off the first ones
  abbrev pub IsSplitDesk : List (Sitting X V) → List (Sitting X V) → List (Lock V) → Option D → (D → List (Sitting X V)) → Type 0
  IsSplitDesk old new locks None seats_of = ⊤
  IsSplitDesk old new locks (Some desk) seats_of = EachTriple IsSplitFrom old new (seats_of desk) × (locks_of (seats_of desk) ≡ locks)

module _ {P D X V : Type 0} where
  -- each worker's desk, if it has one, is of the hall with these locks
  abbrev pub AllAtHall : List (Lock V) → List (Worker P D) → (D → List (Sitting X V)) → Type 0
  AllAtHall locks workers seats_of = All (λ (w : Worker P D). IsOfHall locks w.desk seats_of) workers

  -- the same, worker by worker
  abbrev pub AllOfHall : List (Lock V) → List (Worker P D) → (D → List (Sitting X V)) → Type 0
  AllOfHall locks workers seats_of = Every (λ (w : Worker P D). IsOfHall locks w.desk seats_of) workers

  -- the seats have seen what those of each worker's desk have
  abbrev pub HasSeenAll : List (Sitting X V) → List (Worker P D) → (D → List (Sitting X V)) → Type 0
  HasSeenAll seats workers seats_of = Every (λ (w : Worker P D). HasSeenDesk seats w.desk seats_of) workers

  -- each two desks have other numbers
  abbrev pub AllApart : ℕ → List (Worker P D) → (D → List (Sitting X V)) → Type 0
  AllApart users [] seats_of = ⊤
  AllApart users (w ∷ workers) seats_of =
      Every (λ (other : Worker P D). IsNumberedApart users w.desk other.desk seats_of) workers × AllApart users workers seats_of

  -- posts from the last on were made workers, with seats split off the first ones
  pub record Staffed (old new : List (Sitting X V)) (all left : List P) (workers : List (Worker P D)) (seats_of : D → List (Sitting X V)) : Type 0 where
    pub posts : all ≡ left ++ reverse (posts_of workers)
    pub known : EachPair KnowsMore old new
    pub of_hall : AllOfHall (locks_of old) workers seats_of
    pub within : Every (λ (w : Worker P D). IsNumberedWithin new w.desk seats_of) workers
    pub apart : AllApart (length old) workers seats_of

-- what workers did, added up
abbrev pub served_in : {P D : Type 0} → List (Worker P D) → ℕ
served_in [] = 0
served_in (w ∷ workers) = w.end.served + served_in workers

abbrev pub failed_in : {P D : Type 0} → List (Worker P D) → Bool
failed_in [] = false
failed_in (w ∷ workers) = w.end.failed || failed_in workers

module _ {N E S W K T R : Type 0} (tells : Tellings N E S W) (config : Config) where
  -- all posts were served over these seats and such as were split off them; the first seats, left so, have seen what each desk has
  pub record ServesHall (seats seats' : List (Sitting Record (Room K T R))) (posts posts' : List (Post N E)) (tally : Tally) : Type 0 where
    pub runs : List PostRun
    pub posts_did : RunsOfAll tells config (quotas_of (locks_of seats)) posts posts' tally runs
    pub locks : locks_of seats' ≡ locks_of seats
    pub seen : (user : ℕ) → IsAccount config.accounts user → All (SawFronts user (list_at seats' user)) runs
