-- Halls, closed from the last user to the first.
use Rattle.std.proofs.Common.{◌≡◌, ℕ, List, [], ◌∷◌, ◌++◌, length, reverse, Option, arith, refl, sym, ap, ◌∙◌, subst, append-nil, append_assoc, length-append}
use Rattle.std.proofs.lemmas.List.{length-map, map-append, nil_from_length, reverse-append}
use Rattle.rs_path.specs.declared.log_entry.LogEntry.{LogEntry}
use Rattle.rs_path.specs.Logs.{StartsWith}
use Rattle.rs_record.specs.declared.records.Record.{Record}
use Rattle.rs_rules.specs.Contents.{Contents}
use Rattle.rs_turn.specs.Origins.{BeginsAsMade, HasBasisOf}
use Rattle.rs_turn.specs.Sitting.{Lock, Sitting}
use Rattle.rs_hall.specs.declared.room.Room.{Room}
use Rattle.rs_hall.specs.Abreast.{EachPair, no_pair, one_pair}
use Rattle.rs_hall.specs.Closings.{ComesBack}
use Rattle.rs_hall.specs.Halls.{locks_of, quota_of_origin}
use Rattle.rs_hall.specs.Rooms.{IsRoom}

append_last : {A : Type 0} (xs ys : List A) (x y : A) → xs ++ x ∷ [] ≡ ys ++ y ∷ [] → (xs ≡ ys) × (x ≡ y)
append_last [] [] x y same = (refl, cc)
append_last [] (z ∷ ys) x y same =
    absurd (omega (arith, ap length same, length-append ys (y ∷ [])))
append_last (w ∷ xs) [] x y same =
    absurd (omega (arith, ap length same, length-append xs (x ∷ [])))
append_last {A} (w ∷ xs) (z ∷ ys) x y same =
    let rest : xs ++ x ∷ [] ≡ ys ++ y ∷ [] = cc in
    let first : w ≡ z = cc in
    let last = append_last xs ys x y rest in
    (ap (λ (a : A). a ∷ xs) first ∙ ap (λ (l : List A). z ∷ l) last.0, last.1)

module _ {K T R : Type 0} (tree_stands : T → Contents → Type 0) (rows : K → Option (List (List ℕ))) (row_count : K → ℕ) where
  -- the last locks were closed, each with its seat
  pub record ClosesSoFar (all : List (Sitting Record (Room K T R))) (locks : List (Lock (Room K T R))) (seats : List (Sitting Record (Room K T R)))
      (keepers : List K) : Type 0 where
    pub closed : List (Sitting Record (Room K T R))
    pub all_are : all ≡ seats ++ closed
    pub locks_are : locks_of seats ≡ locks
    pub back : EachPair (ComesBack tree_stands rows row_count) closed (reverse keepers)

  pub none_closed : (locks : List (Lock (Room K T R))) (seats : List (Sitting Record (Room K T R))) (keepers : List K) → locks_of seats ≡ locks → keepers ≡ []
      → ClosesSoFar seats locks seats keepers
  none_closed locks seats keepers own none = record {
    closed = [];
    all_are = sym (append-nil seats);
    locks_are = own;
    back = subst (λ (k : List K). EachPair (ComesBack {R = R} tree_stands rows row_count) [] (reverse k)) (sym none) no_pair;
  }

  -- where a lock is left, so is its seat
  pub some_seat : (locks ls : List (Lock (Room K T R))) (lock : Lock (Room K T R)) (seats : List (Sitting Record (Room K T R)))
      → locks_of seats ≡ locks → locks ≡ ls ++ lock ∷ [] → seats ≡ [] → ⊥
  some_seat locks ls lock seats own locks_are none =
      let empty : [] ≡ ls ++ lock ∷ [] = sym (ap (λ (s : List (Sitting Record (Room K T R))). locks_of s) none) ∙ (own ∙ locks_are) in
      absurd (omega (arith, ap (λ (l : List (Lock (Room K T R))). length l) empty, length-append ls (lock ∷ [])))

  -- the last lock is that of the last seat
  pub last_locks : (locks ls : List (Lock (Room K T R))) (lock : Lock (Room K T R)) (seats ss : List (Sitting Record (Room K T R)))
      (seat : Sitting Record (Room K T R))
      → locks_of seats ≡ locks → locks ≡ ls ++ lock ∷ [] → seats ≡ ss ++ seat ∷ [] → (locks_of ss ≡ ls) × (seat.lock ≡ lock)
  last_locks locks ls lock seats ss seat own locks_are seats_are =
      append_last (locks_of ss) ls seat.lock lock
      (sym (map-append (λ (x : Sitting Record (Room K T R)). x.lock) ss (seat ∷ []))
      ∙ (ap (λ (s : List (Sitting Record (Room K T R))). locks_of s) (sym seats_are) ∙ (own ∙ locks_are)))

  comes_back : (lock : Lock (Room K T R)) (seat : Sitting Record (Room K T R)) (room : Room K T R) → seat.lock ≡ lock
      → HasBasisOf (λ (r : Room K T R). r.state.quota) lock.origin room
      → ((h : List (LogEntry Record)) × IsRoom tree_stands rows row_count room h × StartsWith h seat.list
      × BeginsAsMade (IsRoom tree_stands rows row_count) lock.origin h)
      → ComesBack tree_stands rows row_count seat room.keeper
  comes_back lock seat room same basis left = record {
    room = room;
    keeper_is = refl;
    quota = basis.2 ∙ (ap quota_of_origin (sym basis.1) ∙ ap (λ (l : Lock (Room K T R)). quota_of_origin l.origin) (sym same));
    list = left.0;
    stands = left.1;
    begins = left.2;
    started = subst (λ (l : Lock (Room K T R)). BeginsAsMade (IsRoom tree_stands rows row_count) l.origin left.0) (sym same) left.3;
  }

  -- one lock more was closed
  pub closes_more : (all : List (Sitting Record (Room K T R))) (locks ls : List (Lock (Room K T R))) (lock : Lock (Room K T R))
      (seats ss : List (Sitting Record (Room K T R))) (seat : Sitting Record (Room K T R)) (keepers keepers' : List K) (room : Room K T R)
      → ClosesSoFar all locks seats keepers → locks ≡ ls ++ lock ∷ [] → seats ≡ ss ++ seat ∷ [] → keepers' ≡ keepers ++ room.keeper ∷ []
      → HasBasisOf (λ (r : Room K T R). r.state.quota) lock.origin room
      → ((h : List (LogEntry Record)) × IsRoom tree_stands rows row_count room h × StartsWith h seat.list
      × BeginsAsMade (IsRoom tree_stands rows row_count) lock.origin h)
      → ClosesSoFar all ls ss keepers'
  closes_more all locks ls lock seats ss seat keepers keepers' room so_far locks_are seats_are keepers_are basis left =
      let last = last_locks locks ls lock seats ss seat so_far.locks_are locks_are seats_are in
      record {
        closed = seat ∷ so_far.closed;
        all_are = so_far.all_are ∙ (ap (λ (s : List (Sitting Record (Room K T R))). s ++ so_far.closed) seats_are ∙ append_assoc ss (seat ∷ []) so_far.closed);
        locks_are = last.0;
        back = subst (EachPair (ComesBack tree_stands rows row_count) (seat ∷ so_far.closed))
            (sym (ap (λ (k : List K). reverse k) keepers_are ∙ reverse-append keepers (room.keeper ∷ [])))
            (one_pair (comes_back lock seat room last.1 basis left) so_far.back);
      }

  -- all locks were closed
  pub closes_all : (all : List (Sitting Record (Room K T R))) (locks : List (Lock (Room K T R))) (seats : List (Sitting Record (Room K T R))) (keepers keepers' : List K)
      → ClosesSoFar all locks seats keepers → locks ≡ [] → keepers' ≡ reverse keepers → EachPair (ComesBack tree_stands rows row_count) all keepers'
  closes_all all locks seats keepers keepers' so_far no_locks keepers_are =
      let none : seats ≡ [] = nil_from_length seats (sym (length-map seats (λ (x : Sitting Record (Room K T R)). x.lock))
      ∙ ap (λ (l : List (Lock (Room K T R))). length l) (so_far.locks_are ∙ no_locks)) in
      subst (λ (k : List K). EachPair (ComesBack tree_stands rows row_count) all k) (sym keepers_are)
      (subst (λ (s : List (Sitting Record (Room K T R))). EachPair (ComesBack tree_stands rows row_count) s (reverse keepers))
      (sym (so_far.all_are ∙ ap (λ (s : List (Sitting Record (Room K T R))). s ++ so_far.closed) none)) so_far.back)
