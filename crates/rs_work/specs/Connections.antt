-- Connections that a worker served, one after another.
use Rattle.std.specs.Prelude.{◌≡◌, ℕ, Bool, true, false, List, [], ◌∷◌, ◌++◌, Option, IfSome, option_map, map, length}
use Rattle.rs_face.specs.Causes.{Rose}
use Rattle.rs_face.specs.Courses.{Course, course, IsUntouched}
use Rattle.rs_face.specs.Listening.{with_last}
use Rattle.rs_face.specs.declared.listener.Ended.{Ended}
use Rattle.rs_rules.specs.Histories.{History}
use Rattle.rs_exchange.specs.declared.account.Config.{Config}
use Rattle.rs_front.specs.declared.serve.End.{End}
use Rattle.rs_front.specs.declared.serve.End.TheVariants.{NoMemory}
use Rattle.rs_front.specs.Due.{Users, AllStay}
use Rattle.rs_front.specs.Ends.{Serves}

-- ---- one connection

-- a connection that was served: its two ends as the listener gave them and as serving left them, and how it ended
pub record Connection (S W : Type 0) : Type 0 where
  pub source : S
  pub sink : W
  pub source_left : S
  pub sink_left : W
  pub end : End

-- serving it ended for want of memory
abbrev pub is_starved : End → Bool
is_starved NoMemory = true
is_starved other = false

-- as the listener gave it
abbrev pub as_given : {S W : Type 0} → Connection S W → S × W
as_given c = (c.source, c.sink)

-- as it was given back
abbrev pub given_back : {S W : Type 0} → Connection S W → Ended S W
given_back c = record { source = c.source_left; sink = c.sink_left; starved = is_starved c.end }

-- what happened to its source and its sink, and how it ended
pub record ConnectionCourse : Type 0 where
  pub source : Course (List ℕ)
  pub sink : Course (List ℕ)
  pub wants : Course (List ℕ)
  pub end : End

-- the same, by what the traits of the two ends say that these tell and count
abbrev pub course_of : {S W : Type 0} → (S → Option (List ℕ)) → (S → ℕ) → (W → Option (List ℕ)) → (W → ℕ) → (W → ℕ) → Connection S W → ConnectionCourse
course_of left faults written failed wants c = record {
  source = course left faults c.source c.source_left;
  sink = course written failed c.sink c.sink_left;
  wants = course written wants c.sink c.sink_left;
  end = c.end;
}

-- the connection is as `serve_stream` leaves it over a desk that has these users, for each choice of their histories
abbrev pub ServesConnection : ((ℕ → History) → Users) → Config → ConnectionCourse → Course (List ℕ) → (ℕ → History) → (ℕ → History) → ℕ → ℕ → Type 0
ServesConnection users config c entropy old now before after =
    Serves (users now) config c.source c.sink c.wants entropy old before after c.end

-- ---- all connections

-- each connection is as `serve_stream` leaves it, on from the one before: the users' histories, the desk's count of faults, the
-- words of the entropy and its count of faults go on from each to the next
abbrev pub ServesAll : ((ℕ → History) → Users) → Config → List ConnectionCourse → Course (List ℕ) → (ℕ → History) → (ℕ → History) → ℕ → ℕ → Type 0
ServesAll users config [] entropy old now before after = AllStay old now × (after ≡ before) × IsUntouched entropy
ServesAll users config (c ∷ cs) entropy old now before after =
    (middle : ℕ → History) × (between : ℕ) × (words : Option (List ℕ)) × (failed : ℕ)
    × ServesConnection users config c (record { old = entropy.old; new = words; before = entropy.before; now = failed }) old middle before between
    × ServesAll users config cs (record { old = words; new = entropy.new; before = failed; now = entropy.now }) middle now between after

-- ---- what a worker does with a listener

-- these before those that are told
abbrev pub with_firsts : {C : Type 0} → List C → Option (List C) → Option (List C)
with_firsts first told = option_map (λ them. first ++ them) told

-- these behind those that are told
abbrev pub with_lasts : {C : Type 0} → Option (List C) → List C → Option (List C)
with_lasts told last = option_map (λ them. them ++ last) told

-- so many connections were taken, in order, and each was given back as it was left, in the same order; and of them all this holds
pub record Works {S W : Type 0} (coming coming' : Option (List (S × W))) (back back' : Option (List (Ended S W))) (count : ℕ)
    (Holds : List (Connection S W) → Type 0) : Type 0 where
  pub all : List (Connection S W)
  pub taken : coming ≡ with_firsts (map as_given all) coming'
  pub returned : back' ≡ with_lasts back (map given_back all)
  pub counted : count ≡ length all
  pub holds : Holds all

-- a connection with these two ends was given back as it was left, and ended so; and of it this holds
pub record ServesOne {S W : Type 0} (source : S) (sink : W) (back back' : Option (List (Ended S W))) (end : End)
    (Holds : Connection S W → Type 0) : Type 0 where
  pub source_left : S
  pub sink_left : W
  pub returned : back' ≡ with_last back (given_back (record { source = source; sink = sink; source_left = source_left; sink_left = sink_left; end = end }))
  pub holds : Holds (record { source = source; sink = sink; source_left = source_left; sink_left = sink_left; end = end })

-- the listener failed, and its count of faults rose; or it said that no connection will come, which it counts, and none is told to come
abbrev pub EndsBy : {C : Type 0} → Bool → ℕ → ℕ → ℕ → ℕ → Option (List C) → Type 0
EndsBy true faults faults' ends ends' coming = Rose faults faults'
EndsBy false faults faults' ends ends' coming = Rose ends ends' × IfSome coming (λ them. them ≡ [])
