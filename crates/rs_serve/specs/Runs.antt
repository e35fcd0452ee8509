-- What the posts of a server did, each over a desk.
use Rattle.std.specs.Prelude.{◌≡◌, ◌≢◌, ℕ, ◌+◌, ◌||◌, Bool, true, false, List, [], ◌∷◌, Option, map}
use Rattle.rs_face.specs.Courses.{course}
use Rattle.rs_face.specs.declared.listener.Ended.{Ended}
use Rattle.rs_rules.specs.Histories.{History}
use Rattle.rs_exchange.specs.declared.account.Config.{Config}
use Rattle.rs_hall.specs.Halls.{by_user}
use Rattle.rs_work.specs.Connections.{Connection, ConnectionCourse, ServesAll, Works, EndsBy}
use Rattle.rs_work.specs.declared.worker.WorkerEnd.{WorkerEnd}
use Rattle.rs_serve.specs.declared.post.Post.{Post}

-- what the traits of a listener, of the two ends of its connections, and of an entropy tell and count
pub record Tellings (N E S W : Type 0) : Type 0 where
  pub coming : N → Option (List (S × W))
  pub back : N → Option (List (Ended S W))
  pub given : N → ℕ
  pub ends : N → ℕ
  pub faults : N → ℕ
  pub words : E → Option (List ℕ)
  pub failures : E → ℕ
  pub connection : Connection S W → ConnectionCourse

-- what a post did: whether over seats of its own or, after others, over those of the first post; under which number its desk made
-- entries, by user; for which histories that stood before and after, by user; how often its keepers had failed before and after,
-- by its count; and how it ended
pub record PostRun : Type 0 where
  pub has_seats : Bool
  pub me : ℕ → ℕ
  pub start : ℕ → History
  pub now : ℕ → History
  pub before : ℕ
  pub after : ℕ
  pub end : WorkerEnd

module _ {N E S W : Type 0} (tells : Tellings N E S W) (config : Config) (quotas : List ℕ) where
  -- the post served its connections so, as a worker does, over a desk under these quotas that isn't the only one: each reply is that
  -- of the history at a point, behind which stands what the request added, under the number of the desk
  pub record IsRunOf (old new : Post N E) (run : PostRun) : Type 0 where
    pub works : Works (tells.coming old.listener) (tells.coming new.listener) (tells.back old.listener) (tells.back new.listener) run.end.served
        (λ all. ServesAll (λ history. record { history = history; quota = by_user quotas; me = run.me; alone = false }) config
        (map tells.connection all) (course tells.words tells.failures old.entropy new.entropy) run.start run.now run.before run.after)
    pub given : tells.given new.listener ≡ tells.given old.listener + run.end.served
    pub ended : EndsBy run.end.failed (tells.faults old.listener) (tells.faults new.listener) (tells.ends old.listener) (tells.ends new.listener) (tells.coming new.listener)

-- the post went on with a desk as another had left it
pub record GoesOnAt (is_user : ℕ → Type 0) (last run : PostRun) : Type 0 where
  pub me : run.me ≡ last.me
  pub start : (user : ℕ) → is_user user → run.start user ≡ last.now user
  pub before : run.before ≡ last.after

-- of these posts those without seats of their own went on with the desk of the last one, one after another
pub data ServedAfter (is_user : ℕ → Type 0) : PostRun → List PostRun → Type 0 where
  none_after : {last : PostRun} → ServedAfter is_user last []
  beside : {last run : PostRun} {runs : List PostRun} → run.has_seats ≡ true → ServedAfter is_user last runs → ServedAfter is_user last (run ∷ runs)
  behind : {last run : PostRun} {runs : List PostRun} → run.has_seats ≡ false → GoesOnAt is_user last run → ServedAfter is_user run runs
      → ServedAfter is_user last (run ∷ runs)

-- two posts with seats of their own made entries under two numbers in the user's history
abbrev pub HasOtherNumber : ℕ → PostRun → PostRun → Type 0
HasOtherNumber user one other = one.has_seats ≡ true → other.has_seats ≡ true → one.me user ≢ other.me user

-- how many connections were served
abbrev pub served_by : List PostRun → ℕ
served_by [] = 0
served_by (run ∷ runs) = run.end.served + served_by runs

-- a listener failed
abbrev pub failed_by : List PostRun → Bool
failed_by [] = false
failed_by (run ∷ runs) = run.end.failed || failed_by runs
