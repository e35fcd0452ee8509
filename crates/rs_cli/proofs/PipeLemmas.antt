-- A connection over one user's history, and what it leaves.
use Rattle.std.proofs.Common.{◌≡◌, ℕ, ◌+◌, ◌-◌, ◌^◌, ◌<◌, ◌≤◌, min, inl, inr, List, [], ◌∷◌, Option, length, count_by, refl, subst, sym, arith}
use Rattle.rs_scope.specs.declared.scope.Scope.{Scope}
use Rattle.rs_rules.specs.Contents.{Contents}
use Rattle.rs_rules.specs.Histories.{History, IsFront}
use Rattle.rs_request.specs.declared.message.RequestMessage.{RequestMessage}
use Rattle.rs_user.specs.declared.state.UserState.{UserState}
use Rattle.rs_user.specs.Openings.{AreToldRows}
use Rattle.rs_front.proofs.Cited.{front_refl, front_trans, goes_later}
use Rattle.rs_exchange.specs.declared.account.Account.{Account}
use Rattle.rs_exchange.specs.declared.account.Config.{Config}
use Rattle.rs_front.specs.declared.serve.End.{End}
use Rattle.rs_front.specs.declared.serve.End.TheVariants.{Closed, Limit, ReadFault, WriteFault, NoMemory, BadMessage}
use Rattle.rs_front.specs.Due.{Users, Outcome, GoesAlong, HasFaults, is_unkept}
use Rattle.rs_front.specs.Ends.{Served, IsCut, IsStarved, EndsSo, Serves}
use Rattle.rs_exchange.specs.Requests.{asked_of}
use Rattle.rs_cli.specs.declared.note.Note.{Note}
use Rattle.rs_cli.specs.Causes.{note_of_end}
use Rattle.rs_face.specs.Courses.{Course, course}
use Rattle.rs_cli.specs.Pipes.{users_of, Pipes, PipeEnds, IsOpenState, OpensGranted}

-- ---- histories that go on

along_later : (users : Users) (config : Config) (ms : List RequestMessage) (os : List Outcome) (old new : ℕ → History) (user : ℕ)
    → GoesAlong users config ms os old new → IsFront (old user) (new user)
along_later users config [] [] old new user along = subst (IsFront (old user)) (sym (along user)) (front_refl (old user))
along_later users config [] (o ∷ os) old new user along = absurd along
along_later users config (m ∷ ms) [] old new user along = absurd along
along_later users config (m ∷ ms) (o ∷ os) old new user along =
    front_trans (old user) (along.0 user) (new user) (goes_later users (asked_of config m) o old along.0 along.1 user)
    (along_later users config ms os along.0 new user along.2)

-- over a connection each history goes on
pub served_later : (users : Users) (config : Config) (source sink wants entropy : Course (List ℕ)) (old : ℕ → History) (before now : ℕ) (end : End) (user : ℕ)
    → Serves users config source sink wants entropy old before now end → IsFront (old user) (users.history user)
served_later users config source sink wants entropy old before now end user serves =
    along_later users config serves.0.messages serves.0.outcomes old users.history user serves.0.along

-- ---- counts of faults

faults_since : (os : List Outcome) (earlier before now : ℕ) → earlier ≤ before → HasFaults os before now → HasFaults os earlier now
faults_since os earlier before now sooner has =
    let a : min (before + count_by is_unkept os) (2 ^ 64 - 1) ≤ now = has in
    omega (arith, sooner, a)

-- the same connection, counted from an earlier time on
again : {users : Users} {config : Config} {source sink entropy : Course (List ℕ)} {old : ℕ → History} (earlier before now : ℕ) → earlier ≤ before
    → Served users config source sink entropy old before now → Served users config source sink entropy old earlier now
again earlier before now sooner served = record {
  read = served.read;
  wrote = served.wrote;
  messages = served.messages;
  outcomes = served.outcomes;
  place = served.place;
  rest = served.rest;
  consumed = served.consumed;
  appended = served.appended;
  division = served.division;
  along = served.along;
  unkept = faults_since served.outcomes earlier before now sooner served.unkept;
  drawn = served.drawn;
  few = served.few;
  open_so_far = served.open_so_far;
}

-- where the sink stopped, or reading wanted memory, doesn't hang on when faults were counted first
cut_again : {users : Users} {config : Config} {source sink entropy : Course (List ℕ)} {old : ℕ → History} (earlier before now : ℕ) (sooner : earlier ≤ before)
    (served : Served users config source sink entropy old before now) → IsCut served → IsCut (again earlier before now sooner served)
unfolding again
cut_again earlier before now sooner served (inl it) = inl (record {
  messages = it.messages;
  outcomes = it.outcomes;
  last = it.last;
  outcome = it.outcome;
  front = it.front;
  all = it.all;
  each = it.each;
  wrote = it.wrote;
  part = it.part;
  shortly = it.shortly;
})
cut_again earlier before now sooner served (inr it) = inr (record { front = it.front; further = it.further; wrote = it.wrote; tail = it.tail })

starved_again : {users : Users} {config : Config} {source sink entropy : Course (List ℕ)} {old : ℕ → History} (earlier before now : ℕ) (sooner : earlier ≤ before)
    (served : Served users config source sink entropy old before now) → IsStarved served → IsStarved (again earlier before now sooner served)
unfolding again
starved_again earlier before now sooner served it = record { first = it.first; further = it.further; so_far = it.so_far; wrote = it.wrote }

ends_again : (users : Users) (config : Config) (source sink wants entropy : Course (List ℕ)) (old : ℕ → History) (earlier before now : ℕ) (sooner : earlier ≤ before)
    (served : Served users config source sink entropy old before now) (end : End)
    → EndsSo users config source sink wants entropy old before now served end
    → EndsSo users config source sink wants entropy old earlier now (again earlier before now sooner served) end
unfolding again
ends_again users config source sink wants entropy old earlier before now sooner served Closed ends = ends
ends_again users config source sink wants entropy old earlier before now sooner served Limit ends = ends
ends_again users config source sink wants entropy old earlier before now sooner served ReadFault ends = ends
ends_again users config source sink wants entropy old earlier before now sooner served WriteFault ends = (ends.0, cut_again earlier before now sooner served ends.1)
ends_again users config source sink wants entropy old earlier before now sooner served NoMemory (inl starved) = inl (starved_again earlier before now sooner served starved)
ends_again users config source sink wants entropy old earlier before now sooner served NoMemory (inr (wanted, cut)) = inr (wanted, cut_again earlier before now sooner served cut)
ends_again users config source sink wants entropy old earlier before now sooner served (BadMessage f) ends = ends

serves_since : (users : Users) (config : Config) (source sink wants entropy : Course (List ℕ)) (old : ℕ → History) (earlier before now : ℕ) (end : End) → earlier ≤ before
    → Serves users config source sink wants entropy old before now end → Serves users config source sink wants entropy old earlier now end
serves_since users config source sink wants entropy old earlier before now end sooner serves =
    (again earlier before now sooner serves.0, ends_again users config source sink wants entropy old earlier before now sooner serves.0 end serves.1)

-- a connection that was served after the keeper's rows and its count of faults had been others
pipes_since : (config : Config) (first : History) (quota : ℕ) (old middle new : Option (List (List ℕ))) (earlier before now : ℕ) (source sink wants words : Course (List ℕ)) (note : Note)
    → earlier ≤ before
    → Pipes config first quota (record { old = middle; new = new; before = before; now = now }) source sink wants words note
    → Pipes config first quota (record { old = old; new = new; before = earlier; now = now }) source sink wants words note
pipes_since config first quota old middle new earlier before now source sink wants words note sooner pipes = record {
  histories = pipes.histories;
  end = pipes.end;
  serves = serves_since (users_of pipes.histories quota) config source sink wants words (λ user. first) earlier before now pipes.end sooner pipes.serves;
  goes_on = pipes.goes_on;
  rows_are = pipes.rows_are;
  said = pipes.said;
}

-- ---- over a desk

-- a connection over the one user's desk
pub desk_pipes : (config : Config) (first : History) (quota : ℕ) (rows : Course (List (List ℕ))) (source sink wants words : Course (List ℕ)) (end : End)
    (note : Note) (histories : ℕ → History)
    → Serves (users_of histories quota) config source sink wants words (λ user. first) rows.before rows.now end
    → AreToldRows rows.new (histories 0) → note ≡ note_of_end end → Pipes config first quota rows source sink wants words note
desk_pipes config first quota rows source sink wants words end note histories serves spells said = record {
  histories = histories;
  end = end;
  serves = serves;
  goes_on = served_later (users_of histories quota) config source sink wants words (λ user. first) rows.before rows.now end 0 serves;
  rows_are = spells;
  said = said;
}

-- a user of one account is number 0
pub only_user : (accounts : List Account) (number : ℕ) → length accounts ≡ 1 → number < length accounts → number ≡ 0
only_user accounts number one within = omega (arith, one, within)

pub some_user : (accounts : List Account) → length accounts ≡ 1 → 0 < length accounts
some_user accounts one = omega (arith, one)

module _ {T R : Type 0} (tree_stands : T → Contents → Type 0) where
  -- the rows were opened, the token granted, and the source served
  pub pipe_ends : (config : Config) (token : List ℕ) (scopes : List Scope) (quota : ℕ) (old middle new : Option (List (List ℕ))) (earlier before now count : ℕ) (state : UserState T R)
      (source sink wants words : Course (List ℕ)) (note : Note) → earlier ≤ before
      → OpensGranted tree_stands token scopes (record { old = old; new = middle; before = earlier; now = before }) count quota state
      → ((h : History) → IsOpenState tree_stands middle count state.quota state h
      → Pipes config h state.quota (record { old = middle; new = new; before = before; now = now }) source sink wants words note)
      → PipeEnds config token scopes quota (record { old = old; new = new; before = earlier; now = now }) source sink wants words note
  pipe_ends config token scopes quota old middle new earlier before now count state source sink wants words note sooner opens serves =
      let ready = opens.granted.ready in
      let first = opens.granted.first in
      let mine : IsOpenState tree_stands middle count state.quota state first = record {
        stands = ready.stands;
        spells = ready.spells;
        counted = ready.counted;
        quota_is = refl;
      } in
      let pipes = subst (λ (q : ℕ). Pipes config first q (record { old = middle; new = new; before = before; now = now }) source sink wants words note) ready.quota_is (serves first mine) in
      inl record {
        history = opens.history;
        spelled = opens.spelled;
        rows_were = opens.rows_were;
        first = first;
        begins = opens.granted.begins;
        pipes = pipes_since config first quota old middle new earlier before now source sink wants words note sooner pipes;
      }

  -- the source is served over this state and keeper, which ends as the last one
  abbrev pub PipesOver : {K : Type 0} (rows : K → Option (List (List ℕ))) (faults count : K → ℕ) (config : Config) (h : History) (source sink wants words : Course (List ℕ)) (note : Note)
      → UserState T R → K → K → Type 0
  PipesOver rows faults count config h source sink wants words note state keeper last =
      IsOpenState tree_stands (rows keeper) (count keeper) state.quota state h
      → Pipes config h state.quota (course rows faults keeper last) source sink wants words note

  -- the same of what a desk borrows
  pub pipes_borrowed : {K : Type 0} (rows : K → Option (List (List ℕ))) (faults count : K → ℕ) (config : Config) (h : History) (source sink wants words : Course (List ℕ)) (note : Note)
      (lent state : UserState T R) (held keeper given last : K) → lent ≡ state → held ≡ keeper → last ≡ given
      → PipesOver rows faults count config h source sink wants words note lent held given → PipesOver rows faults count config h source sink wants words note state keeper last
  pipes_borrowed rows faults count config h source sink wants words note lent state held keeper given last same_state same_keeper same_last pipes =
      subst (λ s. PipesOver rows faults count config h source sink wants words note s keeper last) same_state
      (subst (λ k. PipesOver rows faults count config h source sink wants words note lent k last) same_keeper
      (subst (λ k. PipesOver rows faults count config h source sink wants words note lent held k) (sym same_last) pipes))
