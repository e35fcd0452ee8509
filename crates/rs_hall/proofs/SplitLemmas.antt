-- Seats, split user by user.
use Rattle.std.proofs.Common.{◌≡◌, ℕ, zero, suc, ◌+◌, ◌<◌, ◌≤◌, List, [], ◌∷◌, ◌++◌, length, get_or, arith, refl, sym, ap, ◌∙◌, subst, length-append}
use Rattle.std.proofs.Math.ListN.{set}
use Rattle.std.proofs.Math.Nat.{le_refl}
use Rattle.rs_turn.specs.Limits.{max_seats}
use Rattle.rs_turn.specs.Sitting.{Lock, Sitting, IsSplitFrom}
use Rattle.rs_hall.specs.Abreast.{EachPair, no_pair, one_pair, EachTriple, no_triple, one_triple}
use Rattle.rs_hall.specs.Halls.{locks_of}
use Rattle.rs_hall.specs.Splits.{KnowsMore, IsFirstFull, full_here, full_later}

module _ {W V : Type 0} where
  knows_itself : (s : Sitting W V) → KnowsMore s s
  knows_itself s = record { same = refl; more = le_refl s.made }

  pub all_know : (seats : List (Sitting W V)) → EachPair KnowsMore seats seats
  all_know [] = no_pair
  all_know (s ∷ seats) = one_pair (knows_itself s) (all_know seats)

  -- the first seats were split, the rest are as they were
  pub data SplitSoFar : List (Sitting W V) → List (Sitting W V) → List (Sitting W V) → Type 0 where
    none_split : {seats : List (Sitting W V)} → SplitSoFar seats seats []
    one_split : {o n s : Sitting W V} {olds news split : List (Sitting W V)} → KnowsMore o n → IsSplitFrom o n s → SplitSoFar olds news split
        → SplitSoFar (o ∷ olds) (n ∷ news) (s ∷ split)

  pub split_known : {olds news split : List (Sitting W V)} → SplitSoFar olds news split → EachPair KnowsMore olds news
  split_known (none_split {seats}) = all_know seats
  split_known (one_split k s rest) = one_pair k (split_known rest)

  pub split_lengths : {olds news split : List (Sitting W V)} → SplitSoFar olds news split → length olds ≡ length news
  split_lengths none_split = refl
  split_lengths (one_split k s rest) = let same = split_lengths rest in omega arith

  -- so many seats were split, and all are of these locks
  pub record SplitsSoFar (locks : List (Lock V)) (olds news split : List (Sitting W V)) (count : ℕ) : Type 0 where
    pub front : SplitSoFar olds news split
    pub counted : length split ≡ count
    pub own : locks_of news ≡ locks

  -- a seat was split off that of one user more
  pub split_more : (olds news split : List (Sitting W V)) (place : ℕ) (f f' s : Sitting W V) → SplitSoFar olds news split → length split ≡ place
      → place < length news → f ≡ get_or news place f → KnowsMore f f' → IsSplitFrom f f' s → SplitSoFar olds (set news place f') (split ++ s ∷ [])
  split_more [] [] split place f f' s so_far count few is knows splits = absurd (omega arith)
  split_more [] (n ∷ news) split place f f' s so_far count few is knows splits = let same = split_lengths so_far in absurd (omega arith)
  split_more (o ∷ olds) [] split place f f' s so_far count few is knows splits = absurd (omega arith)
  split_more (o ∷ olds) (n ∷ news) [] zero f f' s none_split count few is knows splits =
      one_split (subst (λ (x : Sitting W V). KnowsMore x f') is knows) (subst (λ (x : Sitting W V). IsSplitFrom x f' s) is splits) none_split
  split_more (o ∷ olds) (n ∷ news) [] (suc place) f f' s so_far count few is knows splits = absurd (omega arith)
  split_more (o ∷ olds) (n ∷ news) (x ∷ split) zero f f' s so_far count few is knows splits = absurd (omega arith)
  split_more (o ∷ olds) (n ∷ news) (x ∷ split) (suc place) f f' s (one_split k first rest) count few is knows splits =
      one_split k first (split_more olds news split place f f' s rest (omega arith) (omega arith) is knows splits)

  -- the user's lock is the first that is full
  pub split_full : (olds news split : List (Sitting W V)) (place made : ℕ) (f f' : Sitting W V) → SplitSoFar olds news split → length split ≡ place
      → place < length news → f ≡ get_or news place f → KnowsMore f f' → f'.made ≡ made → max_seats ≤ made
      → EachPair KnowsMore olds (set news place f') × IsFirstFull made olds (set news place f')
  split_full [] [] split place made f f' so_far count few is knows told full = absurd (omega arith)
  split_full [] (n ∷ news) split place made f f' so_far count few is knows told full = let same = split_lengths so_far in absurd (omega arith)
  split_full (o ∷ olds) [] split place made f f' so_far count few is knows told full = absurd (omega arith)
  split_full (o ∷ olds) (n ∷ news) [] zero made f f' none_split count few is knows told full =
      (one_pair (subst (λ (x : Sitting W V). KnowsMore x f') is knows) (all_know olds), full_here told full)
  split_full (o ∷ olds) (n ∷ news) [] (suc place) made f f' so_far count few is knows told full = absurd (omega arith)
  split_full (o ∷ olds) (n ∷ news) (x ∷ split) zero made f f' so_far count few is knows told full = absurd (omega arith)
  split_full (o ∷ olds) (n ∷ news) (x ∷ split) (suc place) made f f' (one_split k first rest) count few is knows told full =
      let behind = split_full olds news split place made f f' rest (omega arith) (omega arith) is knows told full in
      (one_pair k behind.0, full_later x first behind.1)

  -- a seat was split off that of each user
  pub split_all : (olds news split : List (Sitting W V)) → SplitSoFar olds news split → length split ≡ length olds → EachTriple IsSplitFrom olds news split
  split_all [] [] [] so_far all = no_triple
  split_all [] [] (s ∷ split) so_far all = absurd (omega arith)
  split_all [] (n ∷ news) split so_far all = let same = split_lengths so_far in absurd (omega arith)
  split_all (o ∷ olds) [] split so_far all = let same = split_lengths so_far in absurd (omega arith)
  split_all (o ∷ olds) (n ∷ news) [] so_far all = absurd (omega arith)
  split_all (o ∷ olds) (n ∷ news) (s ∷ split) (one_split k first rest) all = one_triple first (split_all olds news split rest (omega arith))

  -- the seats are of the same locks
  pub known_locks : {olds news : List (Sitting W V)} → EachPair KnowsMore olds news → locks_of news ≡ locks_of olds
  known_locks no_pair = refl
  known_locks (one_pair {x} {y} {xs} {ys} p rest) =
      ap (λ (l : Lock V). l ∷ locks_of ys) (ap (λ (s : Sitting W V). s.lock) p.same) ∙ ap (λ (ls : List (Lock V)). x.lock ∷ ls) (known_locks rest)

  pub split_locks : {olds news split : List (Sitting W V)} → EachTriple IsSplitFrom olds news split → locks_of split ≡ locks_of olds
  split_locks no_triple = refl
  split_locks (one_triple {x} {y} {z} {xs} {ys} {zs} p rest) =
      ap (λ (l : Lock V). l ∷ locks_of zs) p.lock ∙ ap (λ (ls : List (Lock V)). x.lock ∷ ls) (split_locks rest)

  pub none_split_yet : (locks : List (Lock V)) (seats split : List (Sitting W V)) → locks_of seats ≡ locks → split ≡ [] → SplitsSoFar locks seats seats split 0
  none_split_yet locks seats split own none = record {
    front = subst (λ (x : List (Sitting W V)). SplitSoFar seats seats x) (sym none) none_split;
    counted = ap (λ (x : List (Sitting W V)). length x) none;
    own = own;
  }

  pub splits_more : (locks : List (Lock V)) (olds news split : List (Sitting W V)) (split' : List (Sitting W V)) (place : ℕ) (f f' s : Sitting W V) → locks_of olds ≡ locks
      → SplitsSoFar locks olds news split place → split' ≡ split ++ s ∷ [] → place < length olds → f ≡ get_or news place f → KnowsMore f f' → IsSplitFrom f f' s
      → SplitsSoFar locks olds (set news place f') split' (place + 1)
  splits_more locks olds news split split' place f f' s own so_far split_is few is knows splits =
      let same = split_lengths so_far.front in
      let front = split_more olds news split place f f' s so_far.front so_far.counted (omega arith) is knows splits in
      record {
        front = subst (λ (x : List (Sitting W V)). SplitSoFar olds (set news place f') x) (sym split_is) front;
        counted = omega (arith, so_far.counted, ap (λ (x : List (Sitting W V)). length x) split_is, length-append split (s ∷ []));
        own = known_locks (split_known front) ∙ own;
      }

  pub splits_full : (locks : List (Lock V)) (olds news split : List (Sitting W V)) (place made : ℕ) (f f' : Sitting W V)
      → SplitsSoFar locks olds news split place → place < length olds → f ≡ get_or news place f → KnowsMore f f' → f'.made ≡ made → max_seats ≤ made
      → EachPair KnowsMore olds (set news place f') × IsFirstFull made olds (set news place f')
  splits_full locks olds news split place made f f' so_far few is knows told full =
      let same = split_lengths so_far.front in
      split_full olds news split place made f f' so_far.front so_far.counted (omega arith) is knows told full

  pub splits_all : (locks : List (Lock V)) (olds news split : List (Sitting W V)) (count : ℕ) → SplitsSoFar locks olds news split count
      → length olds ≤ count → count ≤ length olds → EachTriple IsSplitFrom olds news split
  splits_all locks olds news split count so_far all within =
      split_all olds news split so_far.front (omega (arith, so_far.counted))
