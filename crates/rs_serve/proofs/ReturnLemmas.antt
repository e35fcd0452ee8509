-- Posts put back one after another, from the last worker's on.
use Rattle.std.proofs.Common.{◌≡◌, ℕ, ◌+◌, ◌-◌, ◌^◌, ◌≤◌, ◌||◌, min, take, Bool, true, false, List, [], ◌∷◌, ◌++◌, reverse, arith, refl, sym, ap, ◌∙◌, append-nil, append_assoc}
use Rattle.std.proofs.lemmas.List.{map-append, reverse-append}
use Rattle.rs_work.specs.declared.worker.WorkerEnd.{WorkerEnd}
use Rattle.rs_serve.specs.declared.tally.Tally.{Tally}
use Rattle.rs_serve.specs.declared.worker.Worker.{Worker}
use Rattle.rs_serve.specs.Staffs.{posts_of, served_in, failed_in}

or_swapped : (a b c : Bool) → (a || (b || c)) ≡ ((a || c) || b)
or_swapped true b c = refl
or_swapped false true true = refl
or_swapped false true false = refl
or_swapped false false true = refl
or_swapped false false false = refl

or_none : (b : Bool) → (b || false) ≡ (false || b)
or_none true = refl
or_none false = refl

or_assoc : (a b c : Bool) → (a || (b || c)) ≡ ((a || b) || c)
or_assoc true b c = refl
or_assoc false b c = refl

module _ {P D : Type 0} where
  served_end : (workers : List (Worker P D)) (w : Worker P D) → served_in (workers ++ w ∷ []) ≡ served_in workers + w.end.served
  served_end [] w = omega arith
  served_end (x ∷ workers) w = let rest = served_end workers w in omega (arith, rest)

  failed_end : (workers : List (Worker P D)) (w : Worker P D) → failed_in (workers ++ w ∷ []) ≡ (failed_in workers || w.end.failed)
  failed_end [] w = or_none w.end.failed
  failed_end (x ∷ workers) w = ap (λ (b : Bool). x.end.failed || b) (failed_end workers w) ∙ or_assoc x.end.failed (failed_in workers) w.end.failed

  -- the posts and ends of the workers that are left are still to come
  pub record PutsBack (old new : List P) (all left : List (Worker P D)) (first : WorkerEnd) (tally : Tally) : Type 0 where
    pub posts : old ++ reverse (posts_of all) ≡ new ++ reverse (posts_of left)
    pub served : min (first.served + served_in all) (2 ^ 64 - 1) ≡ min (tally.served + served_in left) (2 ^ 64 - 1)
    pub failed : (first.failed || failed_in all) ≡ (tally.failed || failed_in left)
    pub small : tally.served ≤ 2 ^ 64 - 1

  pub none_back : (old : List P) (all : List (Worker P D)) (first : WorkerEnd) (tally : Tally) → tally.served ≡ min (0 + first.served) (2 ^ 64 - 1)
      → tally.failed ≡ first.failed → PutsBack old old all all first tally
  none_back old all first tally total any = record {
    posts = refl;
    served = omega (arith, total);
    failed = ap (λ (b : Bool). b || failed_in all) (sym any);
    small = omega (arith, total);
  }

  pub one_back : (old new new' : List P) (all left left' : List (Worker P D)) (w : Worker P D) (first : WorkerEnd) (tally tally' : Tally) → PutsBack old new all left first tally
      → left ≡ left' ++ w ∷ [] → new' ≡ new ++ w.post ∷ [] → tally'.served ≡ min (tally.served + w.end.served) (2 ^ 64 - 1)
      → tally'.failed ≡ (tally.failed || w.end.failed) → PutsBack old new' all left' first tally'
  one_back old new new' all left left' w first tally tally' so_far last pushed more any =
      let total = so_far.served in
      let rest : served_in left ≡ served_in left' + w.end.served = ap (λ (l : List (Worker P D)). served_in l) last ∙ served_end left' w in
      record {
        posts = so_far.posts ∙ (ap (λ (l : List (Worker P D)). new ++ reverse (posts_of l)) last
            ∙ (ap (λ (l : List P). new ++ reverse l) (map-append (λ (x : Worker P D). x.post) left' (w ∷ []))
            ∙ (ap (λ (l : List P). new ++ l) (reverse-append (posts_of left') (w.post ∷ []))
            ∙ (sym (append_assoc new (w.post ∷ []) (reverse (posts_of left'))) ∙ ap (λ (l : List P). l ++ reverse (posts_of left')) (sym pushed)))));
        served = omega (arith, total, rest, more);
        small = omega (arith, more);
        failed = so_far.failed ∙ (ap (λ (l : List (Worker P D)). tally.failed || failed_in l) last
            ∙ (ap (λ (b : Bool). tally.failed || b) (failed_end left' w) ∙ (or_swapped tally.failed (failed_in left') w.end.failed
            ∙ ap (λ (b : Bool). b || failed_in left') (sym any))));
      }

  -- no worker is left
  pub posts_back : (old new : List P) (all left : List (Worker P D)) (first : WorkerEnd) (tally : Tally) → PutsBack old new all left first tally → left ≡ []
      → new ≡ old ++ reverse (posts_of all)
  posts_back old new all left first tally so_far none =
      sym (append-nil new) ∙ (ap (λ (l : List (Worker P D)). new ++ reverse (posts_of l)) (sym none) ∙ sym so_far.posts)

  pub served_back : (old new : List P) (all left : List (Worker P D)) (first : WorkerEnd) (tally : Tally) → PutsBack old new all left first tally → left ≡ []
      → tally.served ≡ min (first.served + served_in all) (2 ^ 64 - 1)
  served_back old new all left first tally so_far none =
      let total = so_far.served in
      let small = so_far.small in
      let rest : served_in left ≡ 0 = ap (λ (l : List (Worker P D)). served_in l) none in
      omega (arith, total, small, rest)

-- a list from which nothing could be taken is empty
pub none_left : {A : Type 0} (old new : List A) (count : ℕ) → old ≡ new ++ [] → count ≡ 0 → new ≡ take (count - 1) old → old ≡ []
none_left {A} old new count items none rest =
    items ∙ ap (λ (l : List A). l ++ []) (rest ∙ ap (λ (n : ℕ). take (n - 1) old) none)
