-- All posts, served over one hall.
use Rattle.std.proofs.Common.{◌≡◌, ℕ, ◌<◌, ◌+◌, ◌-◌, ◌^◌, ◌||◌, min, true, List, [], ◌∷◌, ◌++◌, length, reverse, slice_index_or, length-append, Bool, Option, Some, None, arith, refl, sym, ap, ◌∙◌, subst}
use Rattle.std.proofs.lemmas.List.{length-map, nil_from_length, reverse-append, reverse-reverse}
use Rattle.rs_record.specs.declared.records.Record.{Record}
use Rattle.rs_turn.specs.Sitting.{Lock, Sitting}
use Rattle.rs_exchange.specs.declared.account.Config.{Config}
use Rattle.rs_exchange.specs.Accounts.{IsAccount}
use Rattle.rs_hall.specs.declared.room.Room.{Room}
use Rattle.rs_hall.specs.Abreast.{EachPair, EachTriple, one_triple, no_pair, one_pair}
use Rattle.rs_hall.specs.Halls.{by_user, locks_of, numbers_of, list_at, quotas_of, AreLater}
use Rattle.rs_hall.specs.LaterSeats.{seats_go_on, as_many_seats}
use Rattle.rs_hall.specs.Splits.{KnowsMore}
use Rattle.rs_serve.specs.declared.post.Post.{Post}
use Rattle.rs_serve.specs.declared.tally.Tally.{Tally}
use Rattle.rs_serve.specs.declared.worker.Worker.{Worker}
use Rattle.rs_serve.specs.Runs.{Tellings, IsRunOf}
use Rattle.rs_serve.specs.OneHistories.{SawFronts}
use Rattle.rs_serve.specs.Staffs.{run_at, RunsAt, HasSeenAll, ServedOver, AllServed, LateOver, AllLate, none_late, one_late, AllAtHall, IsOfHall, AllOfHall, IsNumberedWithin, IsNumberedApart, posts_of, served_in, failed_in, Staffed, ServesHall}
use Rattle.rs_serve.proofs.ListLemmas.{all_of, every_as, every_end, pair_end, pair_lengths, pairs_of}
use Rattle.rs_serve.proofs.StaffLemmas.{known_locks, known_length}
use Rattle.rs_serve.proofs.RunLemmas.{others_did, all_numbers, first_ends, first_saw, late_later, HasNumbersOf}

module _ {N E S W K T R D : Type 0} (tells : Tellings N E S W) (config : Config) (seats_of : D → List (Sitting Record (Room K T R))) where
  -- the first desk has other numbers than those that were split off its seats
  first_apart : (old now : List (Sitting Record (Room K T R))) (desk : D) (other : Option D) → seats_of desk ≡ now → IsNumberedWithin now other seats_of
      → IsNumberedApart (length now) (Some desk) other seats_of
  first_apart old now desk None is within = tt
  first_apart old now desk (Some other) is within = λ user few same.
      let above = (within user few).0 in
      let here : by_user (numbers_of (seats_of desk)) user ≡ by_user (numbers_of now) user =
      ap (λ (s : List (Sitting Record (Room K T R))). by_user (numbers_of s) user) is in
      absurd (omega (arith, above, same, here))

  -- the posts in their order, the first before the others
  posts_are : (posts left : List (Post N E)) (post : Post N E) (workers : List (Worker (Post N E) D)) → reverse posts ≡ left ++ post ∷ []
      → left ≡ reverse (posts_of workers) → posts ≡ post ∷ posts_of workers
  posts_are posts left post workers turned staffed =
      sym (reverse-reverse posts) ∙ (ap (λ (l : List (Post N E)). reverse l) turned ∙ (reverse-append left (post ∷ [])
      ∙ ap (λ (l : List (Post N E)). post ∷ l) (ap (λ (l : List (Post N E)). reverse l) staffed ∙ reverse-reverse (posts_of workers))))

  -- what the first post did, over the first seats
  first_did : (now : List (Sitting Record (Room K T R))) (post : Post N E) (w w' : Worker (Post N E) D) (desk desk' : D) → w.post ≡ post → w.desk ≡ Some desk
      → seats_of desk ≡ now → ServedOver tells config w.desk w w' seats_of → w'.desk ≡ Some desk' → RunsAt tells config true post w'.post now (seats_of desk') w'.end
  first_did now post w w' desk desk' is has seats served has' =
      let over = subst (λ (o : Option D). ServedOver tells config o w w' seats_of) has served in
      let both : Some over.0 ≡ Some desk' = sym over.1 ∙ has' in
      let same : over.0 ≡ desk' = cc in
      subst (λ (p : Post N E). RunsAt tells config true p w'.post now (seats_of desk') w'.end) is
      (subst (λ (l : List (Sitting Record (Room K T R))). RunsAt tells config true w.post w'.post l (seats_of desk') w'.end) seats
      (subst (λ (d : D). RunsAt tells config true w.post w'.post (seats_of desk) (seats_of d) w'.end) same over.2))

  pub hall_served : (first now after final : List (Sitting Record (Room K T R))) (posts posts' left : List (Post N E)) (post : Post N E)
      (workers middles lefts : List (Worker (Post N E) D)) (w w' : Worker (Post N E) D) (desk desk' : D) (tally : Tally)
      → reverse posts ≡ left ++ post ∷ [] → Staffed first now left [] workers seats_of → w.post ≡ post → w.desk ≡ Some desk → seats_of desk ≡ now
      → AllServed tells config (workers ++ w ∷ []) (middles ++ w' ∷ []) seats_of → w'.desk ≡ Some desk'
      → AllLate tells config middles lefts (seats_of desk') after → AreLater after final → HasSeenAll final lefts seats_of → posts' ≡ w'.post ∷ posts_of lefts
      → tally.served ≡ min (w'.end.served + served_in lefts) (2 ^ 64 - 1) → tally.failed ≡ (w'.end.failed || failed_in lefts)
      → ((user : ℕ) → IsAccount config.accounts user → user < length first) → ServesHall tells config first final posts posts' tally
  hall_served first now after final posts posts' left post workers middles lefts w w' desk desk' tally turned staffed is has seats served has' late later seen
      back total any few =
      let parts = pair_end _ workers middles w w' served in
      let did = first_did now post w w' desk desk' is has seats parts.1 has' in
      let run = run_at true now (seats_of desk') did.now w'.end in
      let now_locks : locks_of now ≡ locks_of first = known_locks staffed.known in
      let later' : AreLater (seats_of desk') final = seats_go_on (seats_of desk') after final (late_later tells config seats_of late) later in
      let final_locks : locks_of final ≡ locks_of first = later'.locks ∙ (did.later.locks ∙ now_locks) in
      let final_few : (user : ℕ) → IsAccount config.accounts user → user < length final =
      λ user account. subst (λ (n : ℕ). user < n) (sym (as_many_seats final first final_locks)) (few user account) in
      let others = others_did tells config seats_of (locks_of first) final final_few run parts.0 late staffed.of_hall seen (did.later.locks ∙ now_locks) later
      (first_ends tells config seats_of post w'.post now (seats_of desk') w'.end did) in
      let is_run : IsRunOf tells config (quotas_of (locks_of first)) post w'.post run =
      subst (λ (l : List (Lock (Room K T R))). IsRunOf tells config (quotas_of l) post w'.post run) now_locks did.run in
      record {
        runs = run ∷ others.runs;
        posts_did = record {
          each = subst (λ (l : List (Post N E)). EachTriple (IsRunOf tells config (quotas_of (locks_of first))) l posts' (run ∷ others.runs))
              (sym (posts_are posts left post workers turned staffed.posts))
              (subst (λ (l : List (Post N E)). EachTriple (IsRunOf tells config (quotas_of (locks_of first))) (post ∷ posts_of workers) l (run ∷ others.runs)) (sym back)
              (one_triple is_run others.each));
          first = run;
          others = others.runs;
          all = refl;
          first_seats = refl;
          after = others.after;
          apart = λ user account.
              all_numbers tells config seats_of (locks_of first) final final_few (length first)
              (one_pair {x = w} {y = run} (subst (λ (o : Option D). HasNumbersOf tells config seats_of o run) (sym has)
              (ap (λ (s : List (Sitting Record (Room K T R))). by_user (numbers_of s)) (sym seats))) others.numbered) (
                every_as (λ (o : Worker (Post N E) D). IsNumberedWithin now o.desk seats_of) (λ (o : Worker (Post N E) D). IsNumberedApart (length first) w.desk o.desk seats_of) workers
                    (λ o within. subst (λ (d : Option D). IsNumberedApart (length first) d o.desk seats_of) (sym has)
                    (subst (λ (n : ℕ). IsNumberedApart n (Some desk) o.desk seats_of) (known_length staffed.known) (first_apart first now desk o.desk seats within)))
                    staffed.within,
                staffed.apart,
              ) user (few user account);
          served = let more = others.served in omega (arith, total, more);
          failed = any ∙ ap (λ (b : Bool). w'.end.failed || b) (sym others.failed);
        };
        locks = final_locks;
        seen = λ user account.
            all_of (SawFronts user (list_at final user)) (run ∷ others.runs)
            (first_saw tells config seats_of post w'.post now (seats_of desk') final w'.end did user account (later'.lists user), others.saw user account);
      }

  -- ---- what the steps between want

  left_of_hall : (locks : List (Lock (Room K T R))) (old middle left : Worker (Post N E) D) (desk : Option D) (seats seats' : List (Sitting Record (Room K T R)))
      → old.desk ≡ desk → ServedOver tells config desk old middle seats_of → LateOver tells config middle.desk middle left seats seats' → IsOfHall locks desk seats_of
      → IsOfHall locks left.desk seats_of
  left_of_hall locks old middle left None seats seats' is served late hall =
      let none : middle.desk ≡ None = ap (λ (w : Worker (Post N E) D). w.desk) served ∙ is in
      let late' = subst (λ (o : Option D). LateOver tells config o middle left seats seats') none late in
      subst (λ (o : Option D). IsOfHall locks o seats_of) (sym late'.0) tt
  left_of_hall locks old middle left (Some desk) seats seats' is served late hall =
      let late' = subst (λ (o : Option D). LateOver tells config o middle left seats seats') served.1 late in
      subst (λ (o : Option D). IsOfHall locks o seats_of) (sym (ap (λ (w : Worker (Post N E) D). w.desk) late'.0 ∙ served.1)) (served.2.later.locks ∙ hall)

  -- the desks are of the hall afterwards
  pub lefts_of_hall : (locks : List (Lock (Room K T R))) {olds middles lefts : List (Worker (Post N E) D)} {seats seats' : List (Sitting Record (Room K T R))}
      → AllServed tells config olds middles seats_of → AllLate tells config middles lefts seats seats' → AllOfHall locks olds seats_of → AllOfHall locks lefts seats_of
  lefts_of_hall locks no_pair none_late hall = tt
  lefts_of_hall locks (one_pair {x = old} {y = middle} served more) (one_late {new = left} {seats = seats} {between} {seats'} late rest) hall =
      (left_of_hall locks old middle left old.desk seats between refl served late hall.0, lefts_of_hall locks more rest hall.1)

  -- what a call has left of a worker
  pub served_at : (x y p q : Worker (Post N E) D) → ServedOver tells config p.desk p q seats_of → p ≡ x → q ≡ y → ServedOver tells config x.desk x y seats_of
  served_at x y p q over is is' =
      subst (λ (w : Worker (Post N E) D). ServedOver tells config x.desk x w seats_of) is'
      (subst (λ (w : Worker (Post N E) D). ServedOver tells config w.desk w q seats_of) is over)

  -- a desk was made of the worker's seats, and they were taken from it again
  pub served_own : (old new : Worker (Post N E) D) (desk desk' : D) (begun done : List (Sitting Record (Room K T R))) → Some desk ≡ old.desk → new.desk ≡ Some desk'
      → begun ≡ seats_of desk → seats_of desk' ≡ done → RunsAt tells config true old.post new.post begun done new.end → ServedOver tells config old.desk old new seats_of
  served_own old new desk desk' begun done is is' begins ends did =
      subst (λ (o : Option D). ServedOver tells config o old new seats_of) is (
        desk',
        is',
        subst (λ (s : List (Sitting Record (Room K T R))). RunsAt tells config true old.post new.post s (seats_of desk') new.end) begins
            (subst (λ (s : List (Sitting Record (Room K T R))). RunsAt tells config true old.post new.post begun s new.end) (sym ends) did),
      )

  -- it has no seats
  pub served_none : (old : Worker (Post N E) D) (o : Option D) → old.desk ≡ None → o ≡ None → ServedOver tells config old.desk old (record old { desk = o }) seats_of
  served_none old o none is =
      subst (λ (d : Option D). ServedOver tells config d old (record old { desk = o }) seats_of) (sym none)
      (ap (λ (d : Option D). record old { desk = d }) (is ∙ sym none))

  -- what calls have left of all workers
  pub served_from : (olds news : List (Worker (Post N E) D)) → length news ≡ length olds
      → ((i : ℕ) (d : Worker (Post N E) D) → i < length olds
      → ServedOver tells config (slice_index_or olds i d).desk (slice_index_or olds i d) (slice_index_or news i d) seats_of) → AllServed tells config olds news seats_of
  served_from olds news many at = pairs_of (λ (w w' : Worker (Post N E) D). ServedOver tells config w.desk w w' seats_of) olds news many at

  -- the same of the whole list, of which they had a slice
  pub served_whole : (slice all left news : List (Worker (Post N E) D)) → slice ≡ all → news ≡ left → AllServed tells config slice left seats_of
      → AllServed tells config all news seats_of
  served_whole slice all left news is is' served =
      subst (λ (l : List (Worker (Post N E) D)). AllServed tells config all l seats_of) (sym is')
      (subst (λ (l : List (Worker (Post N E) D)). AllServed tells config l left seats_of) is served)

  pub served_many : (slice left : List (Worker (Post N E) D)) → AllServed tells config slice left seats_of → length left ≡ length slice
  served_many slice left served = sym (pair_lengths served)

  -- ---- in the function that serves them

  parts_of : (workers middles all news : List (Worker (Post N E) D)) (w w' : Worker (Post N E) D) → all ≡ workers ++ w ∷ [] → news ≡ middles ++ w' ∷ []
      → AllServed tells config all news seats_of → AllServed tells config (workers ++ w ∷ []) (middles ++ w' ∷ []) seats_of
  parts_of workers middles all news w w' is is' served =
      subst (λ (l : List (Worker (Post N E) D)). AllServed tells config l (middles ++ w' ∷ []) seats_of) is
      (subst (λ (l : List (Worker (Post N E) D)). AllServed tells config all l seats_of) is' served)

  -- some worker is there afterwards
  pub some_worker : (workers all news : List (Worker (Post N E) D)) (w : Worker (Post N E) D) → all ≡ workers ++ w ∷ [] → news ≡ []
      → AllServed tells config all news seats_of → ⊥
  some_worker workers all news w is none served =
      let same = pair_lengths served in
      let all_many = ap (λ (l : List (Worker (Post N E) D)). length l) is in
      let news_many = ap (λ (l : List (Worker (Post N E) D)). length l) none in
      absurd (omega (arith, same, all_many, news_many, length-append workers (w ∷ [])))

  -- the first one's desk is there afterwards, with as many seats
  pub desk_there : (workers middles all news : List (Worker (Post N E) D)) (w w' : Worker (Post N E) D) (desk : D) → all ≡ workers ++ w ∷ [] → news ≡ middles ++ w' ∷ []
      → AllServed tells config all news seats_of → w.desk ≡ Some desk → w'.desk ≡ None → ⊥
  desk_there workers middles all news w w' desk is is' served has none =
      let parts = pair_end _ workers middles w w' (parts_of workers middles all news w w' is is' served) in
      let over = subst (λ (o : Option D). ServedOver tells config o w w' seats_of) has parts.1 in
      let clash : None ≡ Some over.0 = sym none ∙ over.1 in
      absurd (cc)

  pub desk_locks : (workers middles all news : List (Worker (Post N E) D)) (w w' : Worker (Post N E) D) (desk desk' : D) → all ≡ workers ++ w ∷ []
      → news ≡ middles ++ w' ∷ [] → AllServed tells config all news seats_of → w.desk ≡ Some desk → w'.desk ≡ Some desk'
      → locks_of (seats_of desk') ≡ locks_of (seats_of desk)
  desk_locks workers middles all news w w' desk desk' is is' served has has' =
      let parts = pair_end _ workers middles w w' (parts_of workers middles all news w w' is is' served) in
      (first_did (seats_of desk) w.post w w' desk desk' refl has refl parts.1 has').later.locks

  pub desk_many : (workers middles all news : List (Worker (Post N E) D)) (w w' : Worker (Post N E) D) (desk desk' : D) (first now : List (Sitting Record (Room K T R)))
      → all ≡ workers ++ w ∷ [] → news ≡ middles ++ w' ∷ [] → AllServed tells config all news seats_of → w.desk ≡ Some desk → w'.desk ≡ Some desk' → seats_of desk ≡ now
      → EachPair KnowsMore first now → length (seats_of desk') ≡ length first
  desk_many workers middles all news w w' desk desk' first now is is' served has has' seats known =
      as_many_seats (seats_of desk') (seats_of desk) (desk_locks workers middles all news w w' desk desk' is is' served has has')
      ∙ (ap (λ (l : List (Sitting Record (Room K T R))). length l) seats ∙ known_length known)

  -- the first seats are of the hall when the late posts were served
  pub after_of_hall : (locks : List (Lock (Room K T R))) (workers middles all news middles' lefts : List (Worker (Post N E) D)) (w w' : Worker (Post N E) D) (desk desk' : D)
      (first begun after : List (Sitting Record (Room K T R))) → all ≡ workers ++ w ∷ [] → news ≡ middles ++ w' ∷ [] → AllServed tells config all news seats_of
      → w.desk ≡ Some desk → w'.desk ≡ Some desk' → EachPair KnowsMore first (seats_of desk) → begun ≡ seats_of desk'
      → AllLate tells config middles' lefts begun after → locks_of first ≡ locks → locks_of after ≡ locks
  after_of_hall locks workers middles all news middles' lefts w w' desk desk' first begun after is is' served has has' known begins late hall =
      (late_later tells config seats_of late).locks ∙ (ap (λ (l : List (Sitting Record (Room K T R))). locks_of l) begins
      ∙ (desk_locks workers middles all news w w' desk desk' is is' served has has' ∙ (known_locks known ∙ hall)))

  -- the seats of the others are, too
  pub meets_of_hall : (locks : List (Lock (Room K T R))) (workers middles all news middles' lefts lefts' : List (Worker (Post N E) D)) (w w' : Worker (Post N E) D)
      (first begun after : List (Sitting Record (Room K T R))) → all ≡ workers ++ w ∷ [] → news ≡ middles ++ w' ∷ [] → AllServed tells config all news seats_of
      → middles' ≡ middles → AllLate tells config middles' lefts begun after → lefts' ≡ lefts → locks_of first ≡ locks → AllOfHall (locks_of first) workers seats_of
      → AllOfHall locks lefts' seats_of
  meets_of_hall locks workers middles all news middles' lefts lefts' w w' first begun after is is' served same late same' hall_is hall =
      let parts = pair_end _ workers middles w w' (parts_of workers middles all news w w' is is' served) in
      let late' = subst (λ (l : List (Worker (Post N E) D)). AllLate tells config l lefts begun after) same late in
      subst (λ (l : List (Lock (Room K T R))). AllOfHall l lefts' seats_of) hall_is
      (subst (λ (l : List (Worker (Post N E) D)). AllOfHall (locks_of first) l seats_of) (sym same') (lefts_of_hall (locks_of first) parts.0 late' hall))

  posts_again : (posts' pushed put taken : List (Post N E)) (post : Post N E) (lefts left met : List (Worker (Post N E) D)) → posts' ≡ reverse pushed
      → pushed ≡ put ++ post ∷ [] → put ≡ taken ++ reverse (posts_of left) → taken ≡ [] → left ≡ met → posts_of met ≡ posts_of lefts → posts' ≡ post ∷ posts_of lefts
  posts_again posts' pushed put taken post lefts left met turned last puts none is same =
      turned ∙ (ap (λ (l : List (Post N E)). reverse l) last ∙ (reverse-append put (post ∷ [])
      ∙ ap (λ (l : List (Post N E)). post ∷ l) (ap (λ (l : List (Post N E)). reverse l)
      (puts ∙ ap (λ (l : List (Post N E)). l ++ reverse (posts_of left)) none)
      ∙ (reverse-reverse (posts_of left) ∙ (ap (λ (l : List (Worker (Post N E) D)). posts_of l) is ∙ same)))))

  pub hall_served_by : (first now begun after final final' : List (Sitting Record (Room K T R))) (posts posts' turned left pushed put taken : List (Post N E)) (post : Post N E)
      (workers all news middles middles' lefts lefts' met back : List (Worker (Post N E) D)) (w w' : Worker (Post N E) D) (desk desk' : D) (tally : Tally)
      → turned ≡ reverse posts → turned ≡ left ++ post ∷ [] → Staffed first now left [] workers seats_of → all ≡ workers ++ w ∷ [] → w.post ≡ post → w.desk ≡ Some desk
      → seats_of desk ≡ now → AllServed tells config all news seats_of → news ≡ middles ++ w' ∷ [] → w'.desk ≡ Some desk' → middles' ≡ middles
      → begun ≡ seats_of desk' → AllLate tells config middles' lefts begun after → lefts' ≡ lefts → AreLater after final → HasSeenAll final lefts' seats_of → final' ≡ final
      → posts_of met ≡ posts_of lefts' → served_in met ≡ served_in lefts' → failed_in met ≡ failed_in lefts'
      → put ≡ taken ++ reverse (posts_of back) → taken ≡ [] → tally.served ≡ min (w'.end.served + served_in back) (2 ^ 64 - 1)
      → tally.failed ≡ (w'.end.failed || failed_in back) → pushed ≡ put ++ w'.post ∷ [] → posts' ≡ reverse pushed
      → ((user : ℕ) → IsAccount config.accounts user → user < length first) → back ≡ met → ServesHall tells config first final' posts posts' tally
  hall_served_by first now begun after final final' posts posts' turned left pushed put taken post workers all news middles middles' lefts lefts' met back w w' desk desk' tally
      turns last staffed is has_post has seats served is' has' same begins late same' later seen same_final met_posts met_served met_failed puts none total any pushes turns' few back_is =
      let to_lefts = ap (λ (l : List (Worker (Post N E) D)). posts_of l) same' in
      subst (λ (s : List (Sitting Record (Room K T R))). ServesHall tells config first s posts posts' tally) (sym same_final)
      (hall_served first now after final posts posts' left post workers middles lefts w w' desk desk' tally (sym turns ∙ last) staffed has_post has seats
      (parts_of workers middles all news w w' is is' served) has'
      (subst (λ (b : List (Sitting Record (Room K T R))). AllLate tells config middles lefts b after) begins
      (subst (λ (l : List (Worker (Post N E) D)). AllLate tells config l lefts begun after) same late)) later
      (subst (λ (l : List (Worker (Post N E) D)). HasSeenAll final l seats_of) same' seen)
      (posts_again posts' pushed put taken w'.post lefts back met turns' pushes puts none back_is (met_posts ∙ to_lefts))
      (total ∙ ap (λ (n : ℕ). min (w'.end.served + n) (2 ^ 64 - 1)) (ap (λ (l : List (Worker (Post N E) D)). served_in l) back_is
      ∙ (met_served ∙ ap (λ (l : List (Worker (Post N E) D)). served_in l) same')))
      (any ∙ ap (λ (b : Bool). w'.end.failed || b) (ap (λ (l : List (Worker (Post N E) D)). failed_in l) back_is
      ∙ (met_failed ∙ ap (λ (l : List (Worker (Post N E) D)). failed_in l) same'))) few)

module _ {N E S W K T R D : Type 0} (tells : Tellings N E S W) (config : Config) where
  -- no worker is left
  pub late_none : (olds news : List (Worker (Post N E) D)) (seats seats' : List (Sitting Record (Room K T R))) → length olds ≡ 0 → news ≡ olds → seats' ≡ seats
      → AllLate tells config olds news seats seats'
  late_none olds news seats seats' none same still =
      let empty : olds ≡ [] = nil_from_length olds none in
      subst (λ (l : List (Worker (Post N E) D)). AllLate tells config l news seats seats') (sym empty)
      (subst (λ (l : List (Worker (Post N E) D)). AllLate tells config [] l seats seats') (sym (same ∙ empty))
      (subst (λ (s : List (Sitting Record (Room K T R))). AllLate {D = D} tells config [] [] seats s) (sym still) none_late))

  -- one more, the first
  pub late_more : (olds news : List (Worker (Post N E) D)) (old new : Worker (Post N E) D) (olds' news' : List (Worker (Post N E) D))
      (seats between seats' : List (Sitting Record (Room K T R))) → olds ≡ old ∷ olds' → news ≡ new ∷ news' → LateOver tells config old.desk old new seats between
      → AllLate tells config olds' news' between seats' → AllLate tells config olds news seats seats'
  late_more olds news old new olds' news' seats between seats' is is' late rest =
      subst (λ (l : List (Worker (Post N E) D)). AllLate tells config l news seats seats') (sym is)
      (subst (λ (l : List (Worker (Post N E) D)). AllLate tells config (old ∷ olds') l seats seats') (sym is') (one_late late rest))

  -- they are as many
  pub late_many : {olds news : List (Worker (Post N E) D)} {seats seats' : List (Sitting Record (Room K T R))} → AllLate tells config olds news seats seats'
      → length news ≡ length olds
  late_many none_late = refl
  late_many (one_late late rest) = let same = late_many rest in omega (arith, same)

-- a hall has as many locks as it has first seats
pub locks_many : {X V : Type 0} (seats : List (Sitting X V)) (locks : List (Lock V)) → locks_of seats ≡ locks → length locks ≡ length seats
locks_many {X} {V} seats locks same = ap (λ (l : List (Lock V)). length l) (sym same) ∙ length-map seats (λ (s : Sitting X V). s.lock)

-- workers with the same posts are as many
pub posts_many : {P D : Type 0} (met lefts : List (Worker P D)) → posts_of met ≡ posts_of lefts → length met ≡ length lefts
posts_many {P} {D} met lefts same =
    sym (length-map met (λ (w : Worker P D). w.post)) ∙ (ap (λ (l : List P). length l) same ∙ length-map lefts (λ (w : Worker P D). w.post))

-- each worker's seats are of the hall
pub all_at_hall : {P D X V : Type 0} (seats_of : D → List (Sitting X V)) (locks : List (Lock V)) (first : List (Sitting X V)) (workers all : List (Worker P D)) (w : Worker P D)
    → all ≡ workers ++ w ∷ [] → locks_of first ≡ locks → AllOfHall (locks_of first) workers seats_of → IsOfHall (locks_of first) w.desk seats_of
    → AllAtHall locks all seats_of
all_at_hall {P} {D} {X} {V} seats_of locks first workers all w is same hall last =
    subst (λ (l : List (Lock V)). AllAtHall l all seats_of) same
    (all_of (λ (o : Worker P D). IsOfHall (locks_of first) o.desk seats_of) all
    (subst (λ (l : List (Worker P D)). AllOfHall (locks_of first) l seats_of) (sym is)
    (every_end (λ (o : Worker P D). IsOfHall (locks_of first) o.desk seats_of) workers w hall last)))
