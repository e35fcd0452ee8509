-- Halls, opened user by user.
use Rattle.std.proofs.Common.{◌≡◌, ◌≢◌, ℕ, zero, suc, ◌+◌, cond, ne_eqb, append-nil, ◌<◌, ◌≤◌, List, [], ◌∷◌, ◌++◌, length, map, reverse, get_or, Option, Some, IfSome, Ok, Err, arith, refl, sym, ap, ◌∙◌, subst, append_assoc, length-append}
use Rattle.std.proofs.Math.ListN.{set}
use Rattle.std.proofs.Math.Nat.{le_refl, le_trans}
use Rattle.std.proofs.lemmas.List.{map-append, nil_from_length, reverse-append}
use Rattle.std.proofs.lemmas.Option.{IfSome_then}
use Rattle.rs_path.specs.declared.log_entry.LogEntry.{LogEntry}
use Rattle.rs_path.specs.Logs.{own}
use Rattle.rs_face.specs.Causes.{HasCause, Rose}
use Rattle.rs_record.specs.declared.records.Record.{Record}
use Rattle.rs_row.specs.declared.open_fault.OpenFault.{OpenFault}
use Rattle.rs_row.specs.declared.open_fault.OpenFault.TheVariants.{BadRow, Unlawful, KeeperFailed, NoMemory as NoMemoryToOpen}
use Rattle.rs_rules.specs.Histories.{Base, History}
use Rattle.rs_rules.specs.Contents.{Contents}
use Rattle.rs_turn.specs.Origins.{BeginsAs}
use Rattle.rs_turn.specs.Sitting.{Lock, Sitting}
use Rattle.rs_user.specs.declared.state.UserState.{UserState}
use Rattle.rs_user.specs.Openings.{opening, by_nobody, AreToldRows, Opens, StandsAnew}
use Rattle.rs_user.specs.Standing.{StandsFor}
use Rattle.rs_hall.specs.declared.hall_fault.HallFault.TheVariants.{User}
use Rattle.rs_hall.specs.declared.room.Room.{Room}
use Rattle.rs_hall.specs.Abreast.{EachPair, no_pair, one_pair, EachTriple, no_triple, one_triple}
use Rattle.rs_hall.specs.Entrances.{IsKept, IsRefusedFor, refusal_of, told_of_user, IsFirstRefused, HallRefuses, IsEntrance, IsReady, IsLockable, IsFirstOf}
use Rattle.rs_hall.specs.Halls.{by_user, locks_of}
use Rattle.rs_hall.specs.Rooms.{history_of, IsRoom}
use Rattle.rs_hall.proofs.AbreastLemmas.{pair_lengths, pair_last, reverse_of}

nobody_owns : (n : ℕ) (list : List (LogEntry Record)) → 0 < n → own n (map (λ (e : LogEntry Record). record { who = 0; what = e.what }) list) ≡ []
nobody_owns n [] above = refl
nobody_owns n (e ∷ list) above =
    let rest = own n (map (λ (x : LogEntry Record). record { who = 0; what = x.what }) list) in
    ap (λ b. cond b (record { who = 0; what = e.what } ∷ rest) rest) (ne_eqb 0 n (λ z. omega arith)) ∙ nobody_owns n list above

-- ---- keepers that are read one after another

module _ {K : Type 0} (rows : K → Option (List (List ℕ))) (row_count faults : K → ℕ) where
  kept_trans : (a b c : K) → IsKept rows row_count faults a b → IsKept rows row_count faults b c → IsKept rows row_count faults a c
  kept_trans a b c first second = record {
    rows_stay = second.rows_stay ∙ first.rows_stay;
    as_many = second.as_many ∙ first.as_many;
    no_fewer = le_trans first.no_fewer second.no_fewer;
  }

  pub kept_itself : (keepers : List K) → EachPair (IsKept rows row_count faults) keepers keepers
  kept_itself [] = no_pair
  kept_itself (k ∷ keepers) = one_pair (record { rows_stay = refl; as_many = refl; no_fewer = le_refl (faults k) }) (kept_itself keepers)

  kept_set : {old now : List K} (place : ℕ) (k k' : K) → EachPair (IsKept rows row_count faults) old now → place < length now
      → k ≡ get_or now place k → IsKept rows row_count faults k k' → EachPair (IsKept rows row_count faults) old (set now place k')
  kept_set place k k' no_pair few is kept = absurd (omega arith)
  kept_set zero k k' (one_pair {x} {y} p rest) few is kept =
      one_pair (kept_trans x y k' p (subst (λ (z : K). IsKept rows row_count faults z k') is kept)) rest
  kept_set (suc place) k k' (one_pair p rest) few is kept = one_pair p (kept_set place k k' rest (omega arith) is kept)

  rows_at : {old now : List K} (place : ℕ) (k : K) → EachPair (IsKept rows row_count faults) old now → place < length now
      → k ≡ get_or now place k → rows k ≡ told_of_user (map rows old) place
  rows_at place k no_pair few is = absurd (omega arith)
  rows_at zero k (one_pair p rest) few is = ap rows is ∙ p.rows_stay
  rows_at (suc place) k (one_pair p rest) few is = rows_at place k rest (omega arith) is

  faults_at : {old now : List K} (place : ℕ) (k : K) → EachPair (IsKept rows row_count faults) old now → place < length now
      → k ≡ get_or now place k → by_user (map faults old) place ≤ faults k
  faults_at place k no_pair few is = absurd (omega arith)
  faults_at zero k (one_pair p rest) few is = let same = ap faults is in let more = p.no_fewer in omega arith
  faults_at (suc place) k (one_pair p rest) few is = faults_at place k rest (omega arith) is

  faults_set : (now : List K) (place : ℕ) (k' : K) → place < length now → by_user (map faults (set now place k')) place ≡ faults k'
  faults_set [] place k' few = absurd (omega arith)
  faults_set (k ∷ now) zero k' few = refl
  faults_set (k ∷ now) (suc place) k' few = faults_set now place k' (omega arith)

module _ {K T R : Type 0} (tree_stands : T → Contents → Type 0) (rows : K → Option (List (List ℕ))) (row_count faults : K → ℕ) where
  -- the states so far are those of the first users
  pub data ReadySoFar : List ℕ → List K → List (UserState T R) → Type 0 where
    none_yet : {quotas : List ℕ} {keepers : List K} → ReadySoFar quotas keepers []
    one_ready : {q : ℕ} {k : K} {s : UserState T R} {quotas : List ℕ} {keepers : List K} {states : List (UserState T R)}
        → IsReady tree_stands rows row_count q k s → ReadySoFar quotas keepers states → ReadySoFar (q ∷ quotas) (k ∷ keepers) (s ∷ states)

  -- the rows of so many users were opened
  pub record OpensSoFar (quotas : List ℕ) (old now : List K) (states : List (UserState T R)) (count : ℕ) : Type 0 where
    pub kept : EachPair (IsKept rows row_count faults) old now
    pub ready : ReadySoFar quotas now states
    pub counted : length states ≡ count

  pub none_opened : (quotas : List ℕ) (keepers : List K) → OpensSoFar quotas keepers keepers [] 0
  none_opened quotas keepers = record { kept = kept_itself rows row_count faults keepers; ready = none_yet; counted = omega arith }

  ready_more : (quotas : List ℕ) (keepers : List K) (states : List (UserState T R)) (place q : ℕ) (k' : K) (s : UserState T R)
      → ReadySoFar quotas keepers states → length states ≡ place → place < length quotas → place < length keepers → q ≡ get_or quotas place 0
      → IsReady tree_stands rows row_count q k' s → ReadySoFar quotas (set keepers place k') (states ++ s ∷ [])
  ready_more [] keepers states place q k' s so_far count few many is ready = absurd (omega arith)
  ready_more (x ∷ quotas) [] states place q k' s so_far count few many is ready = absurd (omega arith)
  ready_more (x ∷ quotas) (k ∷ keepers) [] zero q k' s so_far count few many is ready =
      one_ready (subst (λ (n : ℕ). IsReady tree_stands rows row_count n k' s) is ready) none_yet
  ready_more (x ∷ quotas) (k ∷ keepers) [] (suc place) q k' s so_far count few many is ready = absurd (omega arith)
  ready_more (x ∷ quotas) (k ∷ keepers) (t ∷ states) zero q k' s so_far count few many is ready = absurd (omega arith)
  ready_more (x ∷ quotas) (k ∷ keepers) (t ∷ states) (suc place) q k' s (one_ready first rest) count few many is ready =
      one_ready first (ready_more quotas keepers states place q k' s rest (omega arith) (omega arith) (omega arith) is ready)

  all_ready : (quotas : List ℕ) (keepers : List K) (states : List (UserState T R)) → ReadySoFar quotas keepers states
      → length states ≡ length quotas → length keepers ≡ length quotas → EachTriple (IsReady tree_stands rows row_count) quotas keepers states
  all_ready [] [] [] so_far all many = no_triple
  all_ready [] [] (s ∷ states) so_far all many = elim so_far [ ]
  all_ready [] (k ∷ keepers) (s ∷ states) so_far all many = elim so_far [ ]
  all_ready (q ∷ quotas) [] (s ∷ states) so_far all many = elim so_far [ ]
  all_ready [] (k ∷ keepers) [] so_far all many = absurd (omega arith)
  all_ready (q ∷ quotas) keepers [] so_far all many = absurd (omega arith)
  all_ready (q ∷ quotas) (k ∷ keepers) (s ∷ states) (one_ready first rest) all many =
      one_triple first (all_ready quotas keepers states rest (omega arith) (omega arith))

  earlier_opened : {quotas : List ℕ} {old now : List K} {states : List (UserState T R)} → EachPair (IsKept rows row_count faults) old now
      → ReadySoFar quotas now states → (other : ℕ) → other < length states
      → IfSome (told_of_user (map rows old) other) (λ kept. (h : History) × (opening kept ≡ Ok h))
  earlier_opened kept none_yet other few = absurd (omega arith)
  earlier_opened (one_pair {x} {y} p rest) (one_ready first others) zero few =
      subst (λ told. IfSome told (λ kept. (h : History) × (opening kept ≡ Ok h))) p.rows_stay
      (IfSome_then (rows y) first.1.1.spells (λ kept are. (by_nobody _, are.1)))
  earlier_opened (one_pair p rest) (one_ready first others) (suc other) few = earlier_opened rest others other (omega arith)

  can_be_locked : (k k' : K) (s : UserState T R) → IsKept rows row_count faults k k' → row_count k' ≡ s.rows → StandsAnew tree_stands s (rows k)
      → IsLockable tree_stands rows row_count k' s
  can_be_locked k k' s kept counted anew =
      let h = anew.history in
      let is : h ≡ history_of h.entries = ap (λ (b : Base). record { base = b; entries = h.entries }) anew.whole in (
        h.entries,
        record {
          stands = subst (StandsFor tree_stands s) is anew.stands;
          counted = counted;
          spells = subst (λ told. AreToldRows told (history_of h.entries)) (sym kept.rows_stay) (subst (AreToldRows (rows k)) is anew.rows);
        },
        λ n above. ap (λ (x : History). own n x.entries) anew.nobody ∙ nobody_owns n h.entries above,
      )

  -- the rows of one more user were opened
  pub opens_more : (quotas : List ℕ) (old now : List K) (states : List (UserState T R)) (place q : ℕ) (k k' : K) (s : UserState T R)
      → OpensSoFar quotas old now states place → length quotas ≡ length old → place < length quotas → k ≡ get_or now place k → q ≡ get_or quotas place 0
      → IsKept rows row_count faults k k' → s.quota ≡ q → row_count k' ≡ s.rows → StandsAnew tree_stands s (rows k)
      → OpensSoFar quotas old (set now place k') (states ++ s ∷ []) (place + 1)
  opens_more quotas old now states place q k k' s so_far as_many few is quota kept limit counted anew =
      let same = pair_lengths so_far.kept in
      let within : place < length now = omega arith in
      record {
        kept = kept_set rows row_count faults place k k' so_far.kept within is kept;
        ready = ready_more quotas now states place q k' s so_far.ready so_far.counted few within quota
            (limit, can_be_locked k k' s kept counted anew);
        counted = omega (arith, so_far.counted, length-append states (s ∷ []));
      }

  first_refused : (quotas : List ℕ) (old now : List K) (states : List (UserState T R)) (place : ℕ) (k k' : K) (fault : OpenFault)
      → OpensSoFar quotas old now states place → place < length now → k ≡ get_or now place k → IfSome (rows k) (IsRefusedFor fault)
      → HasCause {A = UserState T R} (faults k) (faults k') KeeperFailed (Err fault)
      → IsFirstRefused (map rows old) place fault (by_user (map faults old) place) (by_user (map faults (set now place k')) place)
  first_refused quotas old now states place k k' fault so_far within is refused cause = record {
    earlier = λ other before. earlier_opened so_far.kept so_far.ready other (omega (arith, so_far.counted));
    refused = subst (λ told. IfSome told (IsRefusedFor fault)) (rows_at rows row_count faults place k so_far.kept within is) refused;
    cause = λ e.
        let rose : Rose (faults k) (faults k') = cause.failed (ap Err e) in
        let before = faults_at rows row_count faults place k so_far.kept within is in
        let after = faults_set rows row_count faults now place k' within in
        omega arith;
  }

  refuses_user : (quotas : List ℕ) (old now : List K) (states : List (UserState T R)) (place : ℕ) (k k' : K) (fault : OpenFault)
      → OpensSoFar quotas old now states place → length quotas ≡ length old → place < length quotas → k ≡ get_or now place k
      → IsKept rows row_count faults k k' → IfSome (rows k) (IsRefusedFor fault)
      → HasCause {A = UserState T R} (faults k) (faults k') KeeperFailed (Err fault) → fault ≢ NoMemoryToOpen
      → HallRefuses rows row_count faults (User place fault) old (set now place k')
  refuses_user quotas old now states place k k' fault so_far as_many few is kept refused cause other =
      let same = pair_lengths so_far.kept in
      let within : place < length now = omega arith in (
        omega arith,
        other,
        first_refused quotas old now states place k k' fault so_far within is refused cause,
        kept_set rows row_count faults place k k' so_far.kept within is kept,
      )

  -- the rows of the user were not opened
  pub opens_not : (quotas : List ℕ) (old now : List K) (states : List (UserState T R)) (place : ℕ) (k k' : K) (fault : OpenFault)
      → OpensSoFar quotas old now states place → length quotas ≡ length old → place < length quotas → k ≡ get_or now place k
      → IsKept rows row_count faults k k' → IfSome (rows k) (Opens {R = R} tree_stands (Err fault))
      → HasCause {A = UserState T R} (faults k) (faults k') KeeperFailed (Err fault)
      → HallRefuses rows row_count faults (refusal_of place fault) old (set now place k')
  opens_not quotas old now states place k k' (BadRow index at) so_far as_many few is kept opens cause =
      refuses_user quotas old now states place k k' (BadRow index at) so_far as_many few is kept opens cause (λ e. cc)
  opens_not quotas old now states place k k' (Unlawful index) so_far as_many few is kept opens cause =
      refuses_user quotas old now states place k k' (Unlawful index) so_far as_many few is kept opens cause (λ e. cc)
  opens_not quotas old now states place k k' KeeperFailed so_far as_many few is kept opens cause =
      refuses_user quotas old now states place k k' KeeperFailed so_far as_many few is kept opens cause (λ e. cc)
  opens_not quotas old now states place k k' NoMemoryToOpen so_far as_many few is kept opens cause = tt

  -- all rows were opened
  pub opens_all : (quotas : List ℕ) (old now : List K) (states : List (UserState T R)) (count : ℕ) → OpensSoFar quotas old now states count
      → length quotas ≡ length old → length quotas ≤ count → count ≤ length quotas → EachTriple (IsReady tree_stands rows row_count) quotas now states
  opens_all quotas old now states count so_far as_many all within =
      let same = pair_lengths so_far.kept in
      all_ready quotas now states so_far.ready (omega (arith, so_far.counted)) (omega arith)

module _ {K T R : Type 0} (tree_stands : T → Contents → Type 0) (rows : K → Option (List (List ℕ))) (row_count : K → ℕ) where
  pub lockable : {quotas : List ℕ} {keepers : List K} {states : List (UserState T R)} → EachTriple (IsReady tree_stands rows row_count) quotas keepers states
      → EachPair (IsLockable tree_stands rows row_count) keepers states
  lockable no_triple = no_pair
  lockable (one_triple first rest) = one_pair first.1 (lockable rest)

  module _ (faults : K → ℕ) where
    pub entered : (quotas : List ℕ) (old now : List K) (states : List (UserState T R)) (seats : List (Sitting Record (Room K T R)))
        → EachPair (IsKept rows row_count faults) old now → EachTriple (IsReady tree_stands rows row_count) quotas now states
        → EachTriple (IsFirstOf tree_stands rows row_count) states now seats
        → EachTriple (IsEntrance tree_stands rows row_count faults) quotas old seats
    entered [] [] [] [] [] no_pair no_triple no_triple = no_triple
    entered [] [] [] [] (x ∷ seats) kept ready first = elim first [ ]
    entered [] [] [] (s ∷ states) seats kept ready first = elim ready [ ]
    entered [] [] (k ∷ now) states seats kept ready first = elim kept [ ]
    entered [] (o ∷ old) [] states seats kept ready first = elim kept [ ]
    entered [] (o ∷ old) (k ∷ now) states seats kept ready first = elim ready [ ]
    entered (q ∷ quotas) [] [] states seats kept ready first = elim ready [ ]
    entered (q ∷ quotas) [] (k ∷ now) states seats kept ready first = elim kept [ ]
    entered (q ∷ quotas) (o ∷ old) [] states seats kept ready first = elim kept [ ]
    entered (q ∷ quotas) (o ∷ old) (k ∷ now) [] seats kept ready first = elim ready [ ]
    entered (q ∷ quotas) (o ∷ old) (k ∷ now) (s ∷ states) [] kept ready first = elim first [ ]
    entered (q ∷ quotas) (o ∷ old) (k ∷ now) (s ∷ states) (x ∷ seats) (one_pair p rest) (one_triple first others) (one_triple f more) =
        one_triple (record { room = record { state = s; keeper = k }; kept = p; quota_is = first.0; first = f }) (entered quotas old now states seats rest others more)

  -- ---- the locks, from the last to the first

  -- these locks were made, each with its first seat, of the last keepers and states
  pub record LocksSoFar (all_keepers : List K) (all_states : List (UserState T R)) (keepers : List K) (states : List (UserState T R))
      (locks : List (Lock (Room K T R))) (seats : List (Sitting Record (Room K T R))) : Type 0 where
    pub locked_keepers : List K
    pub locked_states : List (UserState T R)
    pub left : EachPair (IsLockable tree_stands rows row_count) keepers states
    pub keepers_are : all_keepers ≡ keepers ++ locked_keepers
    pub states_are : all_states ≡ states ++ locked_states
    pub first : EachTriple (IsFirstOf tree_stands rows row_count) locked_states locked_keepers (reverse seats)
    pub locks_are : locks_of seats ≡ locks

  pub none_locked : (keepers : List K) (states : List (UserState T R)) (locks : List (Lock (Room K T R))) (seats : List (Sitting Record (Room K T R)))
      → EachPair (IsLockable tree_stands rows row_count) keepers states → locks ≡ [] → seats ≡ []
      → LocksSoFar keepers states keepers states locks seats
  none_locked keepers states locks seats left no_locks no_seats = record {
    locked_keepers = [];
    locked_states = [];
    left = left;
    keepers_are = sym (append-nil keepers);
    states_are = sym (append-nil states);
    first = subst (λ (x : List (Sitting Record (Room K T R))). EachTriple (IsFirstOf tree_stands rows row_count) [] [] (reverse x)) (sym no_seats) no_triple;
    locks_are = ap (λ (x : List (Sitting Record (Room K T R))). locks_of x) no_seats ∙ sym no_locks;
  }

  -- what is left has a last pair
  pub last_lockable : (keepers ks : List K) (states ss : List (UserState T R)) (k : K) (s : UserState T R)
      → EachPair (IsLockable tree_stands rows row_count) keepers states → keepers ≡ ks ++ k ∷ [] → states ≡ ss ++ s ∷ []
      → EachPair (IsLockable tree_stands rows row_count) ks ss × IsLockable tree_stands rows row_count k s
  last_lockable keepers ks states ss k s left keepers_are states_are =
      pair_last ks ss k s (subst (λ (x : List K). EachPair (IsLockable tree_stands rows row_count) x (ss ++ s ∷ [])) keepers_are
      (subst (λ (x : List (UserState T R)). EachPair (IsLockable tree_stands rows row_count) keepers x) states_are left))

  pub first_of : (k : K) (s : UserState T R) (lock : Lock (Room K T R)) (seat : Sitting Record (Room K T R))
      → lock.origin ≡ Some (record { state = s; keeper = k })
      → (seat.lock ≡ lock) × (seat.who ≡ 1) × (seat.made ≡ 1) × (seat.faults ≡ 0) × (own 1 seat.list ≡ [])
      → BeginsAs (IsRoom tree_stands rows row_count) (record { state = s; keeper = k }) seat.list
      → IsFirstOf tree_stands rows row_count s k seat
  first_of k s lock seat made_with is started = record {
    origin = ap (λ (l : Lock (Room K T R)). l.origin) is.0 ∙ made_with;
    who = is.1;
    made = is.2;
    faults_none = is.3;
    mine = is.4;
    started = started;
  }

  pub locks_more : (all_keepers : List K) (all_states : List (UserState T R)) (keepers ks : List K) (states ss : List (UserState T R)) (k : K) (s : UserState T R)
      (locks locks' : List (Lock (Room K T R))) (lock : Lock (Room K T R)) (seats seats' : List (Sitting Record (Room K T R))) (seat : Sitting Record (Room K T R))
      → LocksSoFar all_keepers all_states keepers states locks seats → keepers ≡ ks ++ k ∷ [] → states ≡ ss ++ s ∷ []
      → locks' ≡ locks ++ lock ∷ [] → seats' ≡ seats ++ seat ∷ [] → seat.lock ≡ lock → IsFirstOf tree_stands rows row_count s k seat
      → LocksSoFar all_keepers all_states ks ss locks' seats'
  locks_more all_keepers all_states keepers ks states ss k s locks locks' lock seats seats' seat so_far keepers_are states_are locks_now seats_now same first = record {
    locked_keepers = k ∷ so_far.locked_keepers;
    locked_states = s ∷ so_far.locked_states;
    left = (last_lockable keepers ks states ss k s so_far.left keepers_are states_are).0;
    keepers_are = so_far.keepers_are ∙ (ap (λ (l : List K). l ++ so_far.locked_keepers) keepers_are ∙ append_assoc ks (k ∷ []) so_far.locked_keepers);
    states_are = so_far.states_are ∙ (ap (λ (l : List (UserState T R)). l ++ so_far.locked_states) states_are ∙ append_assoc ss (s ∷ []) so_far.locked_states);
    first = subst (EachTriple (IsFirstOf tree_stands rows row_count) (s ∷ so_far.locked_states) (k ∷ so_far.locked_keepers))
        (sym (ap (λ (l : List (Sitting Record (Room K T R))). reverse l) seats_now ∙ reverse-append seats (seat ∷ []))) (one_triple first so_far.first);
    locks_are = ap (λ (l : List (Sitting Record (Room K T R))). locks_of l) seats_now ∙ (map-append (λ (x : Sitting Record (Room K T R)). x.lock) seats (seat ∷ [])
        ∙ (ap (λ (l : List (Lock (Room K T R))). l ++ seat.lock ∷ []) so_far.locks_are ∙ (ap (λ (x : Lock (Room K T R)). locks ++ x ∷ []) same ∙ sym locks_now)));
  }

  -- what is said of all locks, once they were made and stand in order
  pub record AllLocked (all_keepers : List K) (all_states : List (UserState T R)) (keepers : List K) (locks : List (Lock (Room K T R)))
      (seats : List (Sitting Record (Room K T R))) : Type 0 where
    pub none : keepers ≡ []
    pub first : EachTriple (IsFirstOf tree_stands rows row_count) all_states all_keepers seats
    pub own_locks : locks_of seats ≡ locks

  pub locks_all : (all_keepers : List K) (all_states : List (UserState T R)) (keepers : List K) (states : List (UserState T R))
      (locks locks' : List (Lock (Room K T R))) (seats seats' : List (Sitting Record (Room K T R)))
      → LocksSoFar all_keepers all_states keepers states locks seats → states ≡ [] → locks' ≡ reverse locks → seats' ≡ reverse seats
      → AllLocked all_keepers all_states keepers locks' seats'
  locks_all all_keepers all_states keepers states locks locks' seats seats' so_far no_states locks_are seats_are =
      let none : keepers ≡ [] = nil_from_length keepers (pair_lengths so_far.left ∙ ap (λ (l : List (UserState T R)). length l) no_states) in
      let ks : all_keepers ≡ so_far.locked_keepers = so_far.keepers_are ∙ ap (λ (l : List K). l ++ so_far.locked_keepers) none in
      let ss : all_states ≡ so_far.locked_states = so_far.states_are ∙ ap (λ (l : List (UserState T R)). l ++ so_far.locked_states) no_states in
      record {
        none = none;
        first = subst (EachTriple (IsFirstOf tree_stands rows row_count) all_states all_keepers) (sym seats_are)
            (subst (λ (l : List K). EachTriple (IsFirstOf tree_stands rows row_count) all_states l (reverse seats)) (sym ks)
            (subst (λ (l : List (UserState T R)). EachTriple (IsFirstOf tree_stands rows row_count) l so_far.locked_keepers (reverse seats)) (sym ss) so_far.first));
        own_locks = ap (λ (l : List (Sitting Record (Room K T R))). locks_of l) seats_are
            ∙ (reverse_of (λ (x : Sitting Record (Room K T R)). x.lock) seats ∙ (ap (λ (l : List (Lock (Room K T R))). reverse l) so_far.locks_are ∙ sym locks_are));
      }

  -- where states are left, so are keepers
  pub some_keeper : (keepers : List K) (states ss : List (UserState T R)) (s : UserState T R) → EachPair (IsLockable tree_stands rows row_count) keepers states
      → keepers ≡ [] → states ≡ ss ++ s ∷ [] → ⊥
  some_keeper keepers states ss s left none states_are =
      let same = pair_lengths left in
      absurd (omega (arith, ap (λ (l : List K). length l) none, ap (λ (l : List (UserState T R)). length l) states_are, length-append ss (s ∷ [])))
