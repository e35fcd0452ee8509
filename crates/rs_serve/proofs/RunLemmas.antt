-- What all posts did, from what each worker did.
use Rattle.std.proofs.Common.{◌≡◌, ℕ, zero, suc, ◌<◌, Bool, true, false, List, [], ◌∷◌, length, ◌||◌, Option, Some, None, All, AllPairs, arith, refl, sym, ap, ◌∙◌, subst}
use Rattle.std.proofs.lemmas.Bool.{false≢true}
use Rattle.rs_path.specs.declared.log_entry.LogEntry.{LogEntry}
use Rattle.rs_path.specs.Logs.{StartsWith}
use Rattle.rs_record.specs.declared.records.Record.{Record}
use Rattle.rs_rules.specs.Histories.{History, IsFront}
use Rattle.rs_turn.specs.Sitting.{Lock, Sitting}
use Rattle.rs_turn.proofs.Cited.{begins_through}
use Rattle.rs_exchange.specs.declared.account.Config.{Config}
use Rattle.rs_exchange.specs.Accounts.{IsAccount}
use Rattle.rs_hall.specs.declared.room.Room.{Room}
use Rattle.rs_hall.specs.Abreast.{EachPair, no_pair, one_pair, EachTriple, no_triple, one_triple}
use Rattle.rs_hall.specs.Halls.{by_user, locks_of, numbers_of, list_at, faults_in, quotas_of, AreLater}
use Rattle.rs_hall.specs.LaterSeats.{seats_stay, seats_go_on}
use Rattle.rs_hall.specs.Rooms.{history_of}
use Rattle.rs_work.specs.declared.worker.WorkerEnd.{WorkerEnd}
use Rattle.rs_serve.specs.declared.post.Post.{Post}
use Rattle.rs_serve.specs.declared.worker.Worker.{Worker}
use Rattle.rs_serve.specs.Runs.{Tellings, PostRun, IsRunOf, ServedAfter, none_after, beside, behind, HasOtherNumber, served_by, failed_by}
use Rattle.rs_serve.specs.OneHistories.{SawFronts}
use Rattle.rs_serve.proofs.ListLemmas.{pairs_cons}
use Rattle.rs_serve.specs.Staffs.{Every, run_at, RunsAt, HasSeen, HasSeenDesk, HasSeenAll, ServedOver, AllServed, LateOver, AllLate, none_late, one_late, IsOfHall, AllOfHall, IsNumberedApart, AllApart, posts_of, served_in, failed_in}

-- ---- fronts

front_of : (h : History) (seen list : List (LogEntry Record)) → h ≡ history_of seen → StartsWith list seen → IsFront h (history_of list)
front_of h seen list is begins = subst (λ (x : History). IsFront x (history_of list)) (sym is) (record { same = refl; entries = begins })

module _ {N E S W K T R D : Type 0} (tells : Tellings N E S W) (config : Config) (seats_of : D → List (Sitting Record (Room K T R))) where
  -- a run ended over these seats
  pub record EndsAt (run : PostRun) (seats : List (Sitting Record (Room K T R))) : Type 0 where
    pub me : run.me ≡ by_user (numbers_of seats)
    pub now : (user : ℕ) → IsAccount config.accounts user → run.now user ≡ history_of (list_at seats user)
    pub after : run.after ≡ faults_in seats

  ends_at : (has_seats : Bool) (old new : Post N E) (seats seats' : List (Sitting Record (Room K T R))) (end : WorkerEnd)
      (did : RunsAt tells config has_seats old new seats seats' end) → EndsAt (run_at has_seats seats seats' did.now end) seats'
  ends_at has_seats old new seats seats' end did = record { me = ap (λ (l : List ℕ). by_user l) (sym did.later.numbers); now = did.lists; after = refl }

  late_one : (desk : Option D) (old new : Worker (Post N E) D) (seats seats' : List (Sitting Record (Room K T R)))
      → LateOver tells config desk old new seats seats' → AreLater seats seats'
  late_one None old new seats seats' late = late.1.later
  late_one (Some desk) old new seats seats' late = subst (λ (s : List (Sitting Record (Room K T R))). AreLater seats s) (sym late.1) (seats_stay seats)

  pub late_later : {olds news : List (Worker (Post N E) D)} {seats seats' : List (Sitting Record (Room K T R))} → AllLate tells config olds news seats seats' → AreLater seats seats'
  late_later (none_late {seats}) = seats_stay seats
  late_later (one_late {old} {new} {olds} {news} {seats} {between} {seats'} late rest) =
      seats_go_on seats between seats' (late_one old.desk old new seats between late) (late_later rest)

  -- the run has the numbers of the desk's seats, if there is one; otherwise it had no seats of its own
  abbrev pub HasNumbersOf : Option D → PostRun → Type 0
  HasNumbersOf None run = run.has_seats ≡ false
  HasNumbersOf (Some desk) run = run.me ≡ by_user (numbers_of (seats_of desk))

  -- one worker was served, over its own desk or later over the first one's seats, which it left so; the next run without seats of
  -- its own goes on from the one that is the last then
  record OneDid (locks : List (Lock (Room K T R))) (final : List (Sitting Record (Room K T R))) (last : PostRun) (old left : Worker (Post N E) D)
      (between : List (Sitting Record (Room K T R))) : Type 0 where
    run : PostRun
    is_run : IsRunOf tells config (quotas_of locks) old.post left.post run
    numbered : HasNumbersOf old.desk run
    saw : (user : ℕ) → IsAccount config.accounts user → SawFronts user (list_at final user) run
    end : run.end ≡ left.end
    then_last : PostRun
    ends : EndsAt then_last between
    chain : (runs : List PostRun) → ServedAfter (IsAccount config.accounts) then_last runs → ServedAfter (IsAccount config.accounts) last (run ∷ runs)

  saw_fronts : (has_seats : Bool) (old new : Post N E) (seats seats' final : List (Sitting Record (Room K T R))) (end : WorkerEnd)
      (did : RunsAt tells config has_seats old new seats seats' end) (user : ℕ) → IsAccount config.accounts user
      → StartsWith (list_at final user) (list_at seats' user) → SawFronts user (list_at final user) (run_at has_seats seats seats' did.now end)
  saw_fronts has_seats old new seats seats' final end did user is begins = record {
    start = record { same = refl; entries = begins_through (list_at final user) (list_at seats' user) (list_at seats user) begins (did.later.lists user) };
    now = front_of (did.now user) (list_at seats' user) (list_at final user) (did.lists user is) begins;
  }

  of_locks : (locks : List (Lock (Room K T R))) (old new : Post N E) (seats : List (Sitting Record (Room K T R))) (run : PostRun) → locks_of seats ≡ locks
      → IsRunOf tells config (quotas_of (locks_of seats)) old new run → IsRunOf tells config (quotas_of locks) old new run
  of_locks locks old new seats run same is_run = subst (λ (l : List (Lock (Room K T R))). IsRunOf tells config (quotas_of l) old new run) same is_run

  -- over seats of its own
  own_did : (locks : List (Lock (Room K T R))) (final : List (Sitting Record (Room K T R))) (last : PostRun) (old middle : Worker (Post N E) D) (desk desk' : D)
      (between : List (Sitting Record (Room K T R))) → old.desk ≡ Some desk → middle.desk ≡ Some desk' → locks_of (seats_of desk) ≡ locks → HasSeen final (seats_of desk')
      → ((user : ℕ) → IsAccount config.accounts user → user < length final) → EndsAt last between
      → RunsAt tells config true old.post middle.post (seats_of desk) (seats_of desk') middle.end → OneDid locks final last old middle between
  own_did locks final last old middle desk desk' between is is' hall seen few ends did =
      let run = run_at true (seats_of desk) (seats_of desk') did.now middle.end in
      record {
        run = run;
        is_run = of_locks locks old.post middle.post (seats_of desk) run hall did.run;
        numbered = subst (λ (o : Option D). HasNumbersOf o run) (sym is) refl;
        saw = λ user account. saw_fronts true old.post middle.post (seats_of desk) (seats_of desk') final middle.end did user account (seen user (few user account));
        end = refl;
        then_last = last;
        ends = ends;
        chain = λ runs rest. beside refl rest;
      }

  -- later, over the first one's seats
  late_did : (locks : List (Lock (Room K T R))) (final : List (Sitting Record (Room K T R))) (last : PostRun) (old left : Worker (Post N E) D)
      (seats between : List (Sitting Record (Room K T R))) → old.desk ≡ None → locks_of seats ≡ locks → AreLater between final → EndsAt last seats
      → RunsAt tells config false old.post left.post seats between left.end → OneDid locks final last old left between
  late_did locks final last old left seats between is hall later ends did =
      let run = run_at false seats between did.now left.end in
      record {
        run = run;
        is_run = of_locks locks old.post left.post seats run hall did.run;
        numbered = subst (λ (o : Option D). HasNumbersOf o run) (sym is) refl;
        saw = λ user account. saw_fronts false old.post left.post seats between final left.end did user account (later.lists user);
        end = refl;
        then_last = run;
        ends = ends_at false old.post left.post seats between left.end did;
        chain = λ runs rest. behind refl
            (record { me = sym ends.me; start = λ user account. sym (ends.now user account); before = sym ends.after }) rest;
      }

  module _ (locks : List (Lock (Room K T R))) (final : List (Sitting Record (Room K T R)))
      (few : (user : ℕ) → IsAccount config.accounts user → user < length final) where
    -- the worker as its thread left it, and then as it was after that
    one_did : (last : PostRun) (old middle left : Worker (Post N E) D) (desk : Option D) (seats between : List (Sitting Record (Room K T R))) → old.desk ≡ desk
        → ServedOver tells config desk old middle seats_of → LateOver tells config middle.desk middle left seats between → IsOfHall locks desk seats_of
        → HasSeenDesk final left.desk seats_of → locks_of seats ≡ locks → AreLater between final → EndsAt last seats → OneDid locks final last old left between
    one_did last old middle left None seats between is served late hall seen same later ends =
        let none : middle.desk ≡ None = ap (λ (w : Worker (Post N E) D). w.desk) served ∙ is in
        let late' = subst (λ (o : Option D). LateOver tells config o middle left seats between) none late in
        late_did locks final last old left seats between is same later ends
        (subst (λ (w : Worker (Post N E) D). RunsAt tells config false w.post left.post seats between left.end) served late'.1)
    one_did last old middle left (Some desk) seats between is served late hall seen same later ends =
        let late' = subst (λ (o : Option D). LateOver tells config o middle left seats between) served.1 late in
        let seen' = subst (λ (o : Option D). HasSeenDesk final o seats_of) (ap (λ (w : Worker (Post N E) D). w.desk) late'.0 ∙ served.1) seen in
        subst (λ (w : Worker (Post N E) D). OneDid locks final last old w between) (sym late'.0)
        (own_did locks final last old middle desk served.0 between is served.1 hall seen' few
        (subst (λ (s : List (Sitting Record (Room K T R))). EndsAt last s) (sym late'.1) ends) served.2)

  -- what all of them did
  pub record OthersDid (locks : List (Lock (Room K T R))) (final : List (Sitting Record (Room K T R))) (last : PostRun)
      (olds lefts : List (Worker (Post N E) D)) : Type 0 where
    pub runs : List PostRun
    pub each : EachTriple (IsRunOf tells config (quotas_of locks)) (posts_of olds) (posts_of lefts) runs
    pub numbered : EachPair (λ (w : Worker (Post N E) D) (run : PostRun). HasNumbersOf w.desk run) olds runs
    pub saw : (user : ℕ) → IsAccount config.accounts user → Every (SawFronts user (list_at final user)) runs
    pub after : ServedAfter (IsAccount config.accounts) last runs
    pub served : served_by runs ≡ served_in lefts
    pub failed : failed_by runs ≡ failed_in lefts

  module _ (locks : List (Lock (Room K T R))) (final : List (Sitting Record (Room K T R)))
      (few : (user : ℕ) → IsAccount config.accounts user → user < length final) where
    pub others_did : (last : PostRun) {olds middles lefts : List (Worker (Post N E) D)} {seats seats' : List (Sitting Record (Room K T R))}
        → AllServed tells config olds middles seats_of → AllLate tells config middles lefts seats seats' → AllOfHall locks olds seats_of
        → HasSeenAll final lefts seats_of → locks_of seats ≡ locks → AreLater seats' final → EndsAt last seats → OthersDid locks final last olds lefts
    others_did last no_pair none_late hall seen same later ends = record {
      runs = [];
      each = no_triple;
      numbered = no_pair;
      saw = λ user account. tt;
      after = none_after;
      served = refl;
      failed = refl;
    }
    others_did last (one_pair {x = old} {y = middle} served more) (one_late {new = left} {seats = seats} {between} {seats'} late rest) hall seen same later ends =
        let here = one_did locks final few last old middle left old.desk seats between refl served late hall.0 seen.0 same
        (seats_go_on between seats' final (late_later rest) later) ends in
        let between_locks : locks_of between ≡ locks = (late_one middle.desk middle left seats between late).locks ∙ same in
        let others = others_did here.then_last more rest hall.1 seen.1 between_locks later here.ends in
        record {
          runs = here.run ∷ others.runs;
          each = one_triple here.is_run others.each;
          numbered = one_pair here.numbered others.numbered;
          saw = λ user account. (here.saw user account, others.saw user account);
          after = here.chain others.runs others.after;
          served = let e = ap (λ (x : WorkerEnd). x.served) here.end in let more = others.served in omega (arith, e, more);
          failed = ap (λ (x : WorkerEnd). x.failed || failed_by others.runs) here.end
              ∙ ap (λ (b : Bool). left.end.failed || b) others.failed;
        }

    -- ---- numbers

    other_numbers : (users : ℕ) (one other : Option D) (run run' : PostRun) → HasNumbersOf one run → HasNumbersOf other run' → IsNumberedApart users one other seats_of
        → (user : ℕ) → user < users → HasOtherNumber user run run'
    other_numbers users None other run run' first second apart user within has has' same = absurd (false≢true (sym first ∙ has))
    other_numbers users (Some d) None run run' first second apart user within has has' same = absurd (false≢true (sym second ∙ has'))
    other_numbers users (Some d) (Some e) run run' first second apart user within has has' same =
        apart user within (sym (ap (λ (f : ℕ → ℕ). f user) first) ∙ same ∙ ap (λ (f : ℕ → ℕ). f user) second)

    others_numbers : (users : ℕ) (one : Option D) (run : PostRun) {workers : List (Worker (Post N E) D)} {runs : List PostRun} → HasNumbersOf one run
        → EachPair (λ (w : Worker (Post N E) D) (r : PostRun). HasNumbersOf w.desk r) workers runs
        → Every (λ (w : Worker (Post N E) D). IsNumberedApart users one w.desk seats_of) workers → (user : ℕ) → user < users → All (HasOtherNumber user run) runs
    others_numbers users one run first no_pair apart user within k d few' = absurd (omega arith)
    others_numbers users one run first (one_pair {x = w} {y = r} p rest) apart user within zero d few' = other_numbers users one w.desk run r first p apart.0 user within
    others_numbers users one run first (one_pair {x = w} {y = r} p rest) apart user within (suc k) d few' =
        others_numbers users one run first rest apart.1 user within k d (omega arith)

    pub all_numbers : (users : ℕ) {workers : List (Worker (Post N E) D)} {runs : List PostRun}
        → EachPair (λ (w : Worker (Post N E) D) (r : PostRun). HasNumbersOf w.desk r) workers runs → AllApart users workers seats_of
        → (user : ℕ) → user < users → AllPairs (HasOtherNumber user) runs
    all_numbers users no_pair apart user within = λ i j d below inside. absurd (omega arith)
    all_numbers users (one_pair {x = w} {y = r} {ys = runs} p rest) apart user within =
        pairs_cons (HasOtherNumber user) r runs (others_numbers users w.desk r p rest apart.0 user within) (all_numbers users rest apart.1 user within)

  -- ---- the first

  pub first_ends : (old new : Post N E) (seats seats' : List (Sitting Record (Room K T R))) (end : WorkerEnd)
      (did : RunsAt tells config true old new seats seats' end) → EndsAt (run_at true seats seats' did.now end) seats'
  first_ends old new seats seats' end did = ends_at true old new seats seats' end did

  pub first_saw : (old new : Post N E) (seats seats' final : List (Sitting Record (Room K T R))) (end : WorkerEnd)
      (did : RunsAt tells config true old new seats seats' end) (user : ℕ) → IsAccount config.accounts user
      → StartsWith (list_at final user) (list_at seats' user) → SawFronts user (list_at final user) (run_at true seats seats' did.now end)
  first_saw old new seats seats' final end did user is begins = saw_fronts true old new seats seats' final end did user is begins
