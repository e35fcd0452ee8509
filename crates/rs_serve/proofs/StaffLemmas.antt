-- Workers, each with seats that are split off the first ones.
use Rattle.std.proofs.Common.{◌≡◌, ℕ, zero, suc, ◌<◌, ◌≤◌, List, [], ◌∷◌, ◌++◌, length, reverse, Option, Some, None, arith, refl, sym, ap, ◌∙◌, subst, append-nil, append_assoc}
use Rattle.std.proofs.Math.Nat.{le_refl, le_trans}
use Rattle.std.proofs.lemmas.List.{map-append, reverse-append}
use Rattle.rs_turn.specs.Sitting.{Lock, Sitting, IsSplitFrom}
use Rattle.rs_hall.specs.Abreast.{EachPair, no_pair, one_pair, EachTriple, no_triple, one_triple}
use Rattle.rs_hall.specs.Halls.{by_user, locks_of, numbers_of}
use Rattle.rs_hall.specs.Splits.{KnowsMore}
use Rattle.rs_serve.specs.declared.worker.Worker.{Worker}
use Rattle.rs_serve.specs.Staffs.{Every, mades_of, IsOfHall, IsNumberedWithin, IsNumberedApart, IsSplitDesk, AllApart, posts_of, Staffed}
use Rattle.rs_serve.proofs.ListLemmas.{every_end, every_as}

module _ {X V : Type 0} where
  known_itself : (seats : List (Sitting X V)) → EachPair KnowsMore seats seats
  known_itself [] = no_pair
  known_itself (s ∷ seats) = one_pair (record { same = refl; more = le_refl s.made }) (known_itself seats)

  known_one : (a b c : Sitting X V) → KnowsMore a b → KnowsMore b c → KnowsMore a c
  known_one a b c first second = record {
    same = second.same ∙ ap (λ (s : Sitting X V). record s { made = c.made }) first.same;
    more = le_trans first.more second.more;
  }

  known_on : {a b c : List (Sitting X V)} → EachPair KnowsMore a b → EachPair KnowsMore b c → EachPair KnowsMore a c
  known_on no_pair no_pair = no_pair
  known_on (one_pair {x} {y} p rest) (one_pair {y = z} q more) = one_pair (known_one x y z p q) (known_on rest more)

  pub known_numbers : {old new : List (Sitting X V)} → EachPair KnowsMore old new → numbers_of new ≡ numbers_of old
  known_numbers no_pair = refl
  known_numbers (one_pair {x} {y} {xs} {ys} p rest) =
      ap (λ (n : ℕ). n ∷ numbers_of ys) (ap (λ (s : Sitting X V). s.who) p.same) ∙ ap (λ (l : List ℕ). x.who ∷ l) (known_numbers rest)

  pub known_locks : {old new : List (Sitting X V)} → EachPair KnowsMore old new → locks_of new ≡ locks_of old
  known_locks no_pair = refl
  known_locks (one_pair {x} {y} {xs} {ys} p rest) =
      ap (λ (n : Lock V). n ∷ locks_of ys) (ap (λ (s : Sitting X V). s.lock) p.same) ∙ ap (λ (l : List (Lock V)). x.lock ∷ l) (known_locks rest)

  known_mades : {old new : List (Sitting X V)} → EachPair KnowsMore old new → (user : ℕ) → by_user (mades_of old) user ≤ by_user (mades_of new) user
  known_mades no_pair user = omega arith
  known_mades (one_pair p rest) zero = p.more
  known_mades (one_pair p rest) (suc user) = known_mades rest user

  pub known_length : {old new : List (Sitting X V)} → EachPair KnowsMore old new → length new ≡ length old
  known_length no_pair = refl
  known_length (one_pair p rest) = let same = known_length rest in omega (arith, same)

  -- the numbers of seats that were split off
  split_numbers : {old new split : List (Sitting X V)} → EachTriple IsSplitFrom old new split → (user : ℕ) → user < length old
      → (by_user (numbers_of old) user < by_user (numbers_of split) user) × (by_user (mades_of old) user < by_user (numbers_of split) user)
      × (by_user (mades_of new) user ≡ by_user (numbers_of split) user)
  split_numbers no_triple user few = absurd (omega arith)
  split_numbers (one_triple p rest) zero few = (p.above, p.later, p.known)
  split_numbers (one_triple p rest) (suc user) few = split_numbers rest user (omega arith)

module _ {D X V : Type 0} (seats_of : D → List (Sitting X V)) where
  within_later : {now now' : List (Sitting X V)} → EachPair KnowsMore now now' → (desk : Option D) → IsNumberedWithin now desk seats_of → IsNumberedWithin now' desk seats_of
  within_later known None within = tt
  within_later {now} {now'} known (Some desk) within = λ user few.
      let before = within user (let same = known_length known in omega (arith, same, few)) in
      let above = before.0 in
      let below = before.1 in
      let more = known_mades known user in
      let same : by_user (numbers_of now') user ≡ by_user (numbers_of now) user = ap (λ (l : List ℕ). by_user l user) (known_numbers known) in
      (omega (arith, above, same), omega (arith, below, more))

  within_split : {now now' : List (Sitting X V)} (desk : D) → EachPair KnowsMore now now' → EachTriple IsSplitFrom now now' (seats_of desk) → IsNumberedWithin now' (Some desk) seats_of
  within_split {now} {now'} desk known split = λ user few.
      let numbers = split_numbers split user (let same = known_length known in omega (arith, same, few)) in
      let above = numbers.0 in
      let knows = numbers.2 in
      let same : by_user (numbers_of now') user ≡ by_user (numbers_of now) user = ap (λ (l : List ℕ). by_user l user) (known_numbers known) in
      (omega (arith, above, same), omega (arith, knows))

  apart_split : {now now' : List (Sitting X V)} (users : ℕ) (desk : D) → users ≡ length now → EachTriple IsSplitFrom now now' (seats_of desk) → (other : Option D)
      → IsNumberedWithin now other seats_of → IsNumberedApart users other (Some desk) seats_of
  apart_split users desk many split None within = tt
  apart_split users desk many split (Some other) within = λ user few same.
      let below = (within user (omega (arith, many, few))).1 in
      let above = (split_numbers split user (omega (arith, many, few))).1 in
      absurd (omega (arith, below, above, same))

  apart_none : (users : ℕ) (other : Option D) → IsNumberedApart users other None seats_of
  apart_none users None = tt
  apart_none users (Some other) = tt

  -- the desk over new seats, if there is one: of the hall, and split off
  of_hall : (now now' : List (Sitting X V)) (locks : List (Lock V)) (desk : Option D) → IsSplitDesk now now' locks desk seats_of → IsOfHall locks desk seats_of
  of_hall now now' locks None split = tt
  of_hall now now' locks (Some desk) split = split.1

  within_new : (now now' : List (Sitting X V)) (locks : List (Lock V)) (desk : Option D) → EachPair KnowsMore now now' → IsSplitDesk now now' locks desk seats_of
      → IsNumberedWithin now' desk seats_of
  within_new now now' locks None known split = tt
  within_new now now' locks (Some desk) known split = within_split desk known split.0

  apart_new : (now now' : List (Sitting X V)) (locks : List (Lock V)) (desk : Option D) (users : ℕ) → users ≡ length now → IsSplitDesk now now' locks desk seats_of
      → (other : Option D) → IsNumberedWithin now other seats_of → IsNumberedApart users other desk seats_of
  apart_new now now' locks None users many split other within = apart_none users other
  apart_new now now' locks (Some desk) users many split other within = apart_split users desk many split.0 other within

  -- the same by the locks of the first seats as they were
  pub split_here : (old now now' : List (Sitting X V)) (locks : List (Lock V)) (desk : Option D) → EachPair KnowsMore old now → locks_of now ≡ locks
      → IsSplitDesk now now' locks desk seats_of → IsSplitDesk now now' (locks_of old) desk seats_of
  split_here old now now' locks desk known same split =
      subst (λ (l : List (Lock V)). IsSplitDesk now now' l desk seats_of) (sym same ∙ known_locks known) split

module _ {P D X V : Type 0} (seats_of : D → List (Sitting X V)) where
  apart_end : (users : ℕ) (workers : List (Worker P D)) (w : Worker P D) → AllApart users workers seats_of
      → Every (λ (o : Worker P D). IsNumberedApart users o.desk w.desk seats_of) workers → AllApart users (workers ++ w ∷ []) seats_of
  apart_end users [] w apart each = (tt, tt)
  apart_end users (x ∷ workers) w apart each =
      (every_end (λ (o : Worker P D). IsNumberedApart users x.desk o.desk seats_of) workers w apart.0 each.0, apart_end users workers w apart.1 each.1)

  posts_end : (all left left' : List P) (post : P) (workers : List (Worker P D)) (w : Worker P D) → all ≡ left ++ reverse (posts_of workers) → left ≡ left' ++ post ∷ []
      → w.post ≡ post → all ≡ left' ++ reverse (posts_of (workers ++ w ∷ []))
  posts_end all left left' post workers w before last is =
      before ∙ (ap (λ (l : List P). l ++ reverse (posts_of workers)) (last ∙ ap (λ (p : P). left' ++ p ∷ []) (sym is))
      ∙ (append_assoc left' (w.post ∷ []) (reverse (posts_of workers))
      ∙ ap (λ (l : List P). left' ++ l) (sym (ap (λ (l : List P). reverse l) (map-append (λ (x : Worker P D). x.post) workers (w ∷ []))
      ∙ reverse-append (posts_of workers) (w.post ∷ [])))))

  pub none_staffed : (seats : List (Sitting X V)) (posts : List P) (workers : List (Worker P D)) → workers ≡ [] → Staffed seats seats posts posts workers seats_of
  none_staffed seats posts workers none =
      subst (λ (l : List (Worker P D)). Staffed seats seats posts posts l seats_of) (sym none)
      (record { posts = sym (append-nil posts); known = known_itself seats; of_hall = tt; within = tt; apart = tt })

  -- one more worker
  pub staffs_more : (old now now' : List (Sitting X V)) (all left left' : List P) (workers workers' : List (Worker P D)) (w : Worker P D)
      → Staffed old now all left workers seats_of → left ≡ left' ++ w.post ∷ [] → workers' ≡ workers ++ w ∷ [] → EachPair KnowsMore now now'
      → IsSplitDesk now now' (locks_of old) w.desk seats_of → Staffed old now' all left' workers' seats_of
  staffs_more old now now' all left left' workers workers' w so_far last more known split =
      subst (λ (l : List (Worker P D)). Staffed old now' all left' l seats_of) (sym more)
      (record {
        posts = posts_end all left left' w.post workers w so_far.posts last refl;
        known = known_on so_far.known known;
        of_hall = every_end (λ (o : Worker P D). IsOfHall (locks_of old) o.desk seats_of) workers w so_far.of_hall (of_hall seats_of now now' (locks_of old) w.desk split);
        within = every_end (λ (o : Worker P D). IsNumberedWithin now' o.desk seats_of) workers w
            (every_as (λ (o : Worker P D). IsNumberedWithin now o.desk seats_of) (λ (o : Worker P D). IsNumberedWithin now' o.desk seats_of) workers
            (λ o before. within_later seats_of known o.desk before) so_far.within) (within_new seats_of now now' (locks_of old) w.desk known split);
        apart = apart_end (length old) workers w so_far.apart
            (every_as (λ (o : Worker P D). IsNumberedWithin now o.desk seats_of) (λ (o : Worker P D). IsNumberedApart (length old) o.desk w.desk seats_of) workers
            (λ o before. apart_new seats_of now now' (locks_of old) w.desk (length old) (sym (known_length so_far.known)) split o.desk before) so_far.within);
      })
