-- What serving many users in many threads comes to.
use Rattle.std.specs.Prelude.{◌≡◌, ◌≢◌, ℕ, ◌-◌, ◌^◌, min, true, List, ◌∷◌, length, map, Option, AllPairs}
use Rattle.rs_exchange.specs.declared.account.Config.{Config}
use Rattle.rs_exchange.specs.Accounts.{IsAccount}
use Rattle.rs_hall.specs.declared.hall_fault.HallFault.{HallFault}
use Rattle.rs_hall.specs.declared.hall_fault.HallFault.TheVariants.{NoMemory}
use Rattle.rs_hall.specs.Abreast.{EachTriple}
use Rattle.rs_hall.specs.Entrances.{HallRefuses, told_of_user}
use Rattle.rs_serve.specs.declared.post.Post.{Post}
use Rattle.rs_serve.specs.declared.tally.Tally.{Tally}
use Rattle.rs_serve.specs.Runs.{Tellings, PostRun, IsRunOf, ServedAfter, HasOtherNumber, served_by, failed_by}
use Rattle.rs_serve.specs.OneHistories.{OneHistory}

-- the posts did these things, of which this is the tally. The first has seats of its own; those without went on over the first one's
-- desk, one after another. No two posts with seats of their own made entries of a user under one number
pub record RunsOfAll {N E S W : Type 0} (tells : Tellings N E S W) (config : Config) (quotas : List ℕ) (posts posts' : List (Post N E)) (tally : Tally)
    (runs : List PostRun) : Type 0 where
  pub each : EachTriple (IsRunOf tells config quotas) posts posts' runs
  pub first : PostRun
  pub others : List PostRun
  pub all : runs ≡ first ∷ others
  pub first_seats : first.has_seats ≡ true
  pub after : ServedAfter (IsAccount config.accounts) first others
  pub apart : (user : ℕ) → IsAccount config.accounts user → AllPairs (HasOtherNumber user) runs
  pub served : tally.served ≡ min (served_by runs) (2 ^ 64 - 1)
  pub failed : tally.failed ≡ failed_by runs

module _ {N E S W K : Type 0} (tells : Tellings N E S W) (rows : K → Option (List (List ℕ))) where
  -- the posts served the users: each user has one history, which told rows of the user's keeper are those of, and of which each desk
  -- saw fronts
  pub record ServesUsers (config : Config) (quotas : List ℕ) (posts posts' : List (Post N E)) (keepers keepers' : List K) (tally : Tally) : Type 0 where
    pub runs : List PostRun
    pub posts_did : RunsOfAll tells config quotas posts posts' tally runs
    pub as_many : length keepers' ≡ length keepers
    pub one : (user : ℕ) → IsAccount config.accounts user
        → OneHistory user (told_of_user (map rows keepers) user) (told_of_user (map rows keepers') user) runs

module _ {N E K : Type 0} (rows : K → Option (List (List ℕ))) (row_count faults : K → ℕ) where
  -- a user's rows weren't opened: all posts and keepers are there as before. Want of memory says nothing
  pub record ServesNobody (fault : HallFault) (posts posts' : List (Post N E)) (keepers keepers' : List K) : Type 0 where
    pub refused : HallRefuses rows row_count faults fault keepers keepers'
    pub same_posts : fault ≢ NoMemory → posts' ≡ posts
