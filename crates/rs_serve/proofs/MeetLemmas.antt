-- Two desks that meet for one user after another.
use Rattle.std.proofs.Common.{◌≡◌, ℕ, ◌+◌, ◌<◌, ◌||◌, Bool, List, ◌∷◌, Option, Some, None, arith, sym, ap, ◌∙◌, subst, inl, inr}
use Rattle.std.proofs.lemmas.Bool.{cases_lt}
use Rattle.rs_path.specs.declared.log_entry.LogEntry.{LogEntry}
use Rattle.rs_path.specs.Logs.{StartsWith}
use Rattle.rs_turn.specs.Sitting.{Lock, Sitting}
use Rattle.rs_turn.proofs.Cited.{begins_through}
use Rattle.rs_hall.specs.Halls.{list_at, locks_of, AreLater, HasMet}
use Rattle.rs_hall.specs.LaterSeats.{seats_stay, seats_go_on, as_many_seats}
use Rattle.rs_work.specs.declared.worker.WorkerEnd.{WorkerEnd}
use Rattle.rs_serve.specs.declared.worker.Worker.{Worker}
use Rattle.rs_serve.specs.Staffs.{IsOfHall, HasSeen, HasSeenDesk, HasSeenAll, posts_of, served_in, failed_in}

module _ {W V : Type 0} where
  -- the seats have met for the first users, so many
  pub record MeetsSoFar (old now other other' : List (Sitting W V)) (count : ℕ) : Type 0 where
    pub later : AreLater old now
    pub other_later : AreLater other other'
    pub seen : (user : ℕ) → user < count → StartsWith (list_at now user) (list_at other user)

  pub none_met : (old other : List (Sitting W V)) → MeetsSoFar old old other other 0
  none_met old other = record { later = seats_stay old; other_later = seats_stay other; seen = λ user few. absurd (omega arith) }

  seen_of : (now' other other' other'' : List (Sitting W V)) (count user : ℕ) → AreLater other other' → AreLater other' other''
      → list_at other'' count ≡ list_at now' count → user ≡ count → StartsWith (list_at now' user) (list_at other user)
  seen_of now' other other' other'' count user first second one_list is =
      subst (λ (u : ℕ). StartsWith (list_at now' u) (list_at other u)) (sym is)
      (subst (λ (l : List (LogEntry W)). StartsWith l (list_at other count)) one_list
      (begins_through (list_at other'' count) (list_at other' count) (list_at other count) (second.lists count) (first.lists count)))

  -- they met for one user more
  pub one_more_met : (old now now' other other' other'' : List (Sitting W V)) (count : ℕ) → MeetsSoFar old now other other' count
      → list_at other'' count ≡ list_at now' count → HasMet now now' count → HasMet other' other'' count → MeetsSoFar old now' other other'' (count + 1)
  one_more_met old now now' other other' other'' count so_far one_list met other_met = record {
    later = seats_go_on old now now' so_far.later met.later;
    other_later = seats_go_on other other' other'' so_far.other_later other_met.later;
    seen = λ user few. elim (cases_lt user count) [
      | inl earlier ↦ begins_through (list_at now' user) (list_at now user) (list_at other user) (met.later.lists user) (so_far.seen user earlier)
      | inr least ↦ seen_of now' other other' other'' count user so_far.other_later other_met.later one_list (omega (arith, few, least))
    ];
  }

-- ---- one worker after another

module _ {D X V : Type 0} (seats_of : D → List (Sitting X V)) where
  seen_later : (seats seats' : List (Sitting X V)) (desk : Option D) → AreLater seats seats' → HasSeenDesk seats desk seats_of → HasSeenDesk seats' desk seats_of
  seen_later seats seats' None later seen = tt
  seen_later seats seats' (Some desk) later seen = λ user few.
      begins_through (list_at seats' user) (list_at seats user) (list_at (seats_of desk) user) (later.lists user)
      (seen user (subst (λ (n : ℕ). user < n) (as_many_seats seats' seats later.locks) few))

  -- seats that were taken from a worker are of its hall
  pub seats_of_hall : (locks : List (Lock V)) (desk : Option D) (own : D) → Some own ≡ desk → IsOfHall locks desk seats_of → locks_of (seats_of own) ≡ locks
  seats_of_hall locks desk own is hall = subst (λ (o : Option D). IsOfHall locks o seats_of) (sym is) hall

  pub saw_desk : (seats begun : List (Sitting X V)) (desk : Option D) (own : D) → Some own ≡ desk → begun ≡ seats_of own → HasSeen seats begun → HasSeenDesk seats desk seats_of
  saw_desk seats begun desk own is same seen =
      subst (λ (o : Option D). HasSeenDesk seats o seats_of) is (subst (λ (b : List (Sitting X V)). HasSeen seats b) same seen)

  pub saw_none : (seats : List (Sitting X V)) (desk : Option D) → desk ≡ None → HasSeenDesk seats desk seats_of
  saw_none seats desk none = subst (λ (o : Option D). HasSeenDesk seats o seats_of) (sym none) tt

module _ {P D X V : Type 0} (seats_of : D → List (Sitting X V)) where
  pub seen_more : (seats seats' : List (Sitting X V)) (olds : List (Worker P D)) (old : Worker P D) (olds' : List (Worker P D)) → olds ≡ old ∷ olds'
      → AreLater seats seats' → HasSeenDesk seats old.desk seats_of → HasSeenAll seats' olds' seats_of → HasSeenAll seats' olds seats_of
  seen_more seats seats' olds old olds' is later seen rest =
      subst (λ (l : List (Worker P D)). HasSeenAll seats' l seats_of) (sym is) (seen_later seats_of seats seats' old.desk later seen, rest)

module _ {P D : Type 0} (olds news : List (Worker P D)) (old new : Worker P D) (olds' news' : List (Worker P D)) (is : olds ≡ old ∷ olds') (is' : news ≡ new ∷ news') where
  pub posts_more : new.post ≡ old.post → posts_of news' ≡ posts_of olds' → posts_of news ≡ posts_of olds
  posts_more same rest =
      ap (λ (l : List (Worker P D)). posts_of l) is' ∙ (ap (λ (p : P). p ∷ posts_of news') same ∙ (ap (λ (l : List P). old.post ∷ l) rest
      ∙ sym (ap (λ (l : List (Worker P D)). posts_of l) is)))

  pub served_more : new.end ≡ old.end → served_in news' ≡ served_in olds' → served_in news ≡ served_in olds
  served_more same rest =
      ap (λ (l : List (Worker P D)). served_in l) is' ∙ (ap (λ (e : WorkerEnd). e.served + served_in news') same ∙ (ap (λ (n : ℕ). old.end.served + n) rest
      ∙ sym (ap (λ (l : List (Worker P D)). served_in l) is)))

  pub failed_more : new.end ≡ old.end → failed_in news' ≡ failed_in olds' → failed_in news ≡ failed_in olds
  failed_more same rest =
      ap (λ (l : List (Worker P D)). failed_in l) is' ∙ (ap (λ (e : WorkerEnd). e.failed || failed_in news') same ∙ (ap (λ (b : Bool). old.end.failed || b) rest
      ∙ sym (ap (λ (l : List (Worker P D)). failed_in l) is)))
