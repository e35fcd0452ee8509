-- Seats some turns later, and then some more.
use Rattle.std.specs.Prelude.{◌≡◌, ℕ, ◌<◌, List, [], length, refl}
use Rattle.std.proofs.Common.{sym, ap, ◌∙◌, subst, append-nil}
use Rattle.std.proofs.lemmas.List.{length-map}
use Rattle.std.proofs.Math.Nat.{le_refl, le_trans}
use Rattle.rs_turn.proofs.Cited.{begins_through}
use Rattle.rs_turn.specs.Sitting.{Lock, Sitting}
use Rattle.rs_hall.specs.Halls.{locks_of, list_at, faults_in, AreLater}

module _ {W V : Type 0} where
  pub seats_stay : (seats : List (Sitting W V)) → AreLater seats seats
  seats_stay seats = record {
    locks = refl;
    numbers = refl;
    lists = λ user. ([], sym (append-nil (list_at seats user)));
    no_fewer = le_refl (faults_in seats);
  }

  pub seats_go_on : (a b c : List (Sitting W V)) → AreLater a b → AreLater b c → AreLater a c
  seats_go_on a b c first second = record {
    locks = second.locks ∙ first.locks;
    numbers = second.numbers ∙ first.numbers;
    lists = λ user. begins_through (list_at c user) (list_at b user) (list_at a user) (second.lists user) (first.lists user);
    no_fewer = le_trans first.no_fewer second.no_fewer;
  }

  -- seats of the same locks are as many
  pub as_many_seats : (a b : List (Sitting W V)) → locks_of a ≡ locks_of b → length a ≡ length b
  as_many_seats a b same =
      sym (length-map a (λ (s : Sitting W V). s.lock)) ∙ (ap (λ (l : List (Lock V)). length l) same ∙ length-map b (λ (s : Sitting W V). s.lock))

  pub later_served : (old new : List (Sitting W V)) (user : ℕ) → AreLater old new → user < length old → user < length new
  later_served old new user later served = subst (λ (n : ℕ). user < n) (sym (as_many_seats new old later.locks)) served
