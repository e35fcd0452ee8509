-- The children of a folder, found one after another.
use Rattle.std.proofs.Common.{◌≡◌, ℕ, suc, ◌+◌, ◌<◌, ◌≤◌, nat_lt, get_or, Bool, true, false, ◌&&◌, ◌||◌, cond, List, [], ◌∷◌, length, filter, fold, Option, Some, None, is_some, arith, refl, sym, ap, ◌∙◌, subst, ⊎_elim}
use Rattle.std.specs.Prelude.{find, filter_map}
use Rattle.std.specs.List.{list_any, AllByRecursion, cons_option}
use Rattle.std.specs.List.Sorted.{IsStrictlySortedBy}
use Rattle.std.specs.declared.cmp.Ordering.{Ordering}
use Rattle.std.specs.declared.cmp.Ordering.TheVariants.{Less, Equal, Greater}
use Rattle.std.specs.declared.ops.Bound.{Bound}
use Rattle.std.specs.declared.ops.Bound.TheVariants.{Included, Excluded, Unbounded}
use Rattle.std.specs.Ordering.{match_ordering, is_lt, is_le, is_eq, ordering_reverse}
use Rattle.std.specs.BTreeSet.{insert_key}
use Rattle.std.specs.Map.{keys_of}
use Rattle.std.specs.Cmp.{tied_itself, both_ways}
use Rattle.std.proofs.lemmas.Bool.{cases_Bool, true≢false, and_parts, and_from, cond-true, cond-false}
use Rattle.std.proofs.lemmas.Bool.Decides.{nat_tests}
use Rattle.rs_path.specs.declared.child.Child.{Child}
use Rattle.rs_path.specs.Paths.{Path, is_path, same_path, path_cmp}
use Rattle.rs_path.specs.PathOrder.{path_cmp_total, path_ties}
use Rattle.std.specs.Str.{bytes_eq}
use Rattle.rs_path.specs.Below.{is_inside, is_below}
use Rattle.rs_path.specs.ChildOrder.{child_cmp_total}
use Rattle.rs_path.specs.Children.{child_cmp, child_from, child_towards}
use Rattle.rs_cache.specs.Firsts.{is_shown_below, is_started, first_shown}
use Rattle.rs_cache.specs.Lists.{shown_paths, shown_children, still_to_come, IsNextChild}
use Rattle.rs_cache.specs.States.{State}
use Rattle.rs_cache.specs.Views.{is_viewed, known_paths}
use Rattle.rs_cache.proofs.EntryLemmas.{same_from}
use Rattle.rs_cache.proofs.BelowLemmas.{below-behind}
use Rattle.rs_cache.proofs.ScanLemmas.{sorted_filter, passing}
use Rattle.rs_cache.proofs.FirstLemmas.{AllBehind, behind_all, turned_less, tied_same, sorted-fold}

-- ---- starts

-- what is behind a started path is started
started_on : (start : Bound Path) (p q : Path) → is_started start p ≡ true → path_cmp p q ≡ Less → is_started start q ≡ true
started_on (Included a) p q started less = by (path_cmp a p) refl started
  where
    by : (r : Ordering) → path_cmp a p ≡ r → is_le r ≡ true → is_le (path_cmp a q) ≡ true
    by Less is started = ap is_le (path_cmp_total.trans a p q is less)
    by Equal is started = ap is_le (path_cmp_total.congr a p q is ∙ less)
    by Greater is started = absurd (true≢false (sym started))
started_on (Excluded a) p q started less = by (path_cmp a p) refl started
  where
    by : (r : Ordering) → path_cmp a p ≡ r → is_lt r ≡ true → is_lt (path_cmp a q) ≡ true
    by Less is started = ap is_lt (path_cmp_total.trans a p q is less)
    by Equal is started = absurd (true≢false (sym started))
    by Greater is started = absurd (true≢false (sym started))
started_on Unbounded p q started less = refl

-- ---- what a search leaves out

-- what comes before the first that passes doesn't
before_found : (test : Path → Bool) (xs : List Path) (p : Path) → IsStrictlySortedBy path_cmp xs → find test xs ≡ Some p
    → AllByRecursion (λ q. path_cmp q p ≡ Less → test q ≡ false) xs
unfolding IsStrictlySortedBy
before_found test [] p sorted found = tt
before_found test (x ∷ xs) p sorted found =
    ⊎_elim
    (λ hit.
    let is : Some x ≡ Some p = sym (cond-true (test x) (Some x) (find test xs) hit) ∙ found in
    let same : x ≡ p = cc in
    (λ less. absurd (true≢false (sym (ap is_lt (ap (path_cmp x) same ∙ less)) ∙ ap is_lt (tied_itself path_cmp_total x))), later x p xs same sorted.0))
    (λ clear. (λ less. clear, before_found test xs p sorted.1 (sym (cond-false (test x) (Some x) (find test xs) clear) ∙ found)))
    (cases_Bool (test x))
  where
    later : (x p : Path) (xs : List Path) → x ≡ p → AllBehind x xs → AllByRecursion (λ q. path_cmp q p ≡ Less → test q ≡ false) xs
    later x p [] same all = tt
    later x p (y ∷ ys) same all = (
      λ less. absurd (true≢false (sym (ap is_lt less) ∙ ap is_lt (path_cmp_total.antisymm y p ∙ ap ordering_reverse (ap (λ t. path_cmp t y) (sym same) ∙ all.0)))),
      later x p ys same all.1,
    )

none_found : (test : Path → Bool) (xs : List Path) → find test xs ≡ None → AllByRecursion (λ q. test q ≡ false) xs
none_found test [] none = tt
none_found test (x ∷ xs) none =
    ⊎_elim
    (λ hit. absurd (true≢false (ap is_some (sym (cond-true (test x) (Some x) (find test xs) hit) ∙ none))))
    (λ clear. (clear, none_found test xs (sym (cond-false (test x) (Some x) (find test xs) clear) ∙ none)))
    (cases_Bool (test x))

-- what is found is there, and passes
found_there : (test : Path → Bool) (xs : List Path) (p : Path) → find test xs ≡ Some p → list_any (same_path p) xs ≡ true
found_there test [] p found = absurd (cc)
found_there test (x ∷ xs) p found =
    ⊎_elim
    (λ hit.
    let is : Some x ≡ Some p = sym (cond-true (test x) (Some x) (find test xs) hit) ∙ found in
    let same : x ≡ p = cc in
    ap (λ b. b || list_any (same_path p) xs) (ap (λ t. same_path t x) (sym same) ∙ path_ties x x ∙ ap is_eq (tied_itself path_cmp_total x)))
    (λ clear. or_later (same_path p x) (list_any (same_path p) xs) (found_there test xs p (sym (cond-false (test x) (Some x) (find test xs) clear) ∙ found)))
    (cases_Bool (test x))
  where
    or_later : (a b : Bool) → b ≡ true → (a || b) ≡ true
    or_later true b is = refl
    or_later false b is = is

pub found-passes : (test : Path → Bool) (xs : List Path) (p : Path) → find test xs ≡ Some p → test p ≡ true
found-passes test [] p found = absurd (cc)
found-passes test (x ∷ xs) p found =
    ⊎_elim
    (λ hit.
    let is : Some x ≡ Some p = sym (cond-true (test x) (Some x) (find test xs) hit) ∙ found in
    let same : x ≡ p = cc in
    ap test (sym same) ∙ hit)
    (λ clear. found-passes test xs p (sym (cond-false (test x) (Some x) (find test xs) clear) ∙ found))
    (cases_Bool (test x))

-- ---- insertion

again_by : (c x : Child) (xs : List Child) (r : Ordering) → child_cmp c x ≡ r → insert_key child_cmp (insert_key child_cmp xs c) c ≡ insert_key child_cmp xs c
    → insert_key child_cmp (match_ordering r (c ∷ x ∷ xs) (x ∷ xs) (x ∷ insert_key child_cmp xs c)) c ≡ match_ordering r (c ∷ x ∷ xs) (x ∷ xs) (x ∷ insert_key child_cmp xs c)
again_by c x xs Less is rest = ap (λ r. match_ordering r (c ∷ c ∷ x ∷ xs) (c ∷ x ∷ xs) (c ∷ insert_key child_cmp (x ∷ xs) c)) (tied_itself child_cmp_total c)
again_by c x xs Equal is rest = ap (λ r. match_ordering r (c ∷ x ∷ xs) (x ∷ xs) (x ∷ insert_key child_cmp xs c)) is
again_by c x xs Greater is rest =
    ap (λ r. match_ordering r (c ∷ x ∷ insert_key child_cmp xs c) (x ∷ insert_key child_cmp xs c) (x ∷ insert_key child_cmp (insert_key child_cmp xs c) c)) is
    ∙ ap (λ l. x ∷ l) rest

-- a child that is there already changes nothing
insert-again : (c : Child) (xs : List Child) → insert_key child_cmp (insert_key child_cmp xs c) c ≡ insert_key child_cmp xs c
insert-again c [] = ap (λ r. match_ordering r (c ∷ c ∷ []) (c ∷ []) (c ∷ c ∷ [])) (tied_itself child_cmp_total c)
insert-again c (x ∷ xs) = again_by c x xs (child_cmp c x) refl (insert-again c xs)

-- ---- what is left to be taken

module _ (to : Path → Option Child) where
  -- the children that paths lead to, put into others
  abbrev pub Taken : List Child → List Path → List Child
  Taken keys paths = fold (insert_key child_cmp) keys (filter_map to paths)

  -- a path that leads nowhere adds nothing, one that leads to a child adds it
  abbrev taken_of : Option Child → List Child → List Child
  taken_of None keys = keys
  taken_of (Some c) keys = insert_key child_cmp keys c

  taken_more : (keys : List Child) (q : Path) (qs : List Path) (o : Option Child) → to q ≡ o → Taken keys (q ∷ qs) ≡ Taken (taken_of o keys) qs
  taken_more keys q qs None is = ap (λ o. fold (insert_key child_cmp) keys (cons_option o (filter_map to qs))) is
  taken_more keys q qs (Some c) is = ap (λ o. fold (insert_key child_cmp) keys (cons_option o (filter_map to qs))) is

  -- paths that lead nowhere may be left out
  taken-left_out : (test : Path → Bool) (keys : List Child) (xs : List Path) → ((q : Path) → test q ≡ false → to q ≡ None)
      → Taken keys (filter test xs) ≡ Taken keys xs
  taken-left_out test keys [] none = refl
  taken-left_out test keys (x ∷ xs) none =
      ⊎_elim
      (λ stays. ap (Taken keys) (cond-true (test x) (x ∷ filter test xs) (filter test xs) stays) ∙ both (λ ks. taken-left_out test ks xs none) (to x) refl)
      (λ goes. ap (Taken keys) (cond-false (test x) (x ∷ filter test xs) (filter test xs) goes) ∙ taken-left_out test keys xs none
      ∙ sym (taken_more keys x xs None (none x goes)))
      (cases_Bool (test x))
    where
      both : ((ks : List Child) → Taken ks (filter test xs) ≡ Taken ks xs) → (o : Option Child) → to x ≡ o → Taken keys (x ∷ filter test xs) ≡ Taken keys (x ∷ xs)
      both rest o is = taken_more keys x (filter test xs) o is ∙ rest (taken_of o keys) ∙ sym (taken_more keys x xs o is)

  -- where none of the paths leads anywhere nothing is added
  taken-none : (keys : List Child) (xs : List Path) → AllByRecursion (λ q. to q ≡ None) xs → Taken keys xs ≡ keys
  taken-none keys [] all = refl
  taken-none keys (x ∷ xs) all = taken_more keys x xs None all.0 ∙ taken-none keys xs all.1

-- ---- where a path leads

is_some-child_from : (ms ns : List (List ℕ)) (folder : Bool) → is_some (child_from ms ns folder) ≡ is_inside ms ns
is_some-child_from [] [] folder = refl
is_some-child_from [] (n ∷ []) folder = refl
is_some-child_from [] (n ∷ (m ∷ ns)) folder = refl
is_some-child_from (m ∷ ms) [] folder = refl
is_some-child_from (m ∷ ms) (n ∷ ns) folder =
    ⊎_elim
    (λ same. ap is_some (cond-true _ _ _ same) ∙ is_some-child_from ms ns folder ∙ sym (ap (λ b. b && is_inside ms ns) same))
    (λ other. ap is_some (cond-false _ _ _ other) ∙ sym (ap (λ b. b && is_inside ms ns) other))
    (cases_Bool (bytes_eq m n))

none_of : (o : Option Child) → is_some o ≡ false → o ≡ None
none_of None none = refl
none_of (Some c) none = absurd (true≢false none)

-- a path that isn't below the folder leads nowhere
leads_nowhere : (f q : Path) → f.folder ≡ true → is_below f q ≡ false → child_towards f q ≡ None
leads_nowhere f q folder other =
    none_of (child_towards f q) (is_some-child_from f.names q.names q.folder ∙ sym (ap (λ b. b && is_inside f.names q.names) folder) ∙ other)

-- what is inside is longer
inside-longer : (ms ns : List (List ℕ)) → is_inside ms ns ≡ true → length ms < length ns
inside-longer [] [] inside = absurd (true≢false (sym inside))
inside-longer [] (n ∷ ns) inside = omega arith
inside-longer (m ∷ ms) [] inside = absurd (true≢false (sym inside))
inside-longer (m ∷ ms) (n ∷ ns) inside =
    let rest = inside-longer ms ns (and_parts (bytes_eq m n) (is_inside ms ns) inside).1 in
    omega (arith, rest)

-- a path has more names than a folder that it is below
pub below-longer : (f p : Path) → is_below f p ≡ true → length f.names < length p.names
below-longer f p below = inside-longer f.names p.names (and_parts f.folder (is_inside f.names p.names) below).1

or_more : (a b : Bool) → b ≡ true → (a || b) ≡ true
or_more true b more = refl
or_more false b more = more

or_less : (a b : Bool) → b ≡ false → (a || b) ≡ a
or_less true b less = refl
or_less false b less = less

less_step : (a b : ℕ) → nat_lt (suc a + 1) (suc b) ≡ nat_lt (a + 1) b
less_step a b =
    both_ways (nat_lt (suc a + 1) (suc b)) (nat_lt (a + 1) b) (λ one. grind (arith, nat_tests, one)) (λ one. grind (arith, nat_tests, one))

child_at_end : (ms ns : List (List ℕ)) (folder : Bool) (d : List ℕ) → is_inside ms ns ≡ true
    → child_from ms ns folder ≡ Some (record { name = get_or ns (length ms) d; folder = folder || nat_lt (length ms + 1) (length ns) })
child_at_end [] [] folder d inside = absurd (true≢false (sym inside))
child_at_end [] (n ∷ []) folder d inside = ap (λ (b : Bool). Some (record { name = n; folder = b })) (sym (or_less folder (nat_lt (0 + 1) (length (n ∷ []))) refl))
child_at_end [] (n ∷ (m ∷ ns)) folder d inside =
    let more : nat_lt (0 + 1) (length (n ∷ (m ∷ ns))) ≡ true = grind (arith, nat_tests) in
    ap (λ (b : Bool). Some (record { name = n; folder = b })) (sym (or_more folder (nat_lt (0 + 1) (length (n ∷ (m ∷ ns)))) more))
child_at_end (m ∷ ms) [] folder d inside = absurd (true≢false (sym inside))
child_at_end (m ∷ ms) (n ∷ ns) folder d inside =
    let parts = and_parts (bytes_eq m n) (is_inside ms ns) inside in
    cond-true (bytes_eq m n) (child_from ms ns folder) None parts.0 ∙ child_at_end ms ns folder d parts.1
    ∙ ap (λ (b : Bool). Some (record { name = get_or ns (length ms) d; folder = folder || b })) (sym (less_step (length ms) (length ns)))

-- the child that a path below the folder leads to has the name behind the folder's, and is a folder where more follows
pub child-there : (f p : Path) (name : List ℕ) (folder : Bool) → is_below f p ≡ true → name ≡ get_or p.names (length f.names) name
    → folder ≡ (p.folder || nat_lt (length f.names + 1) (length p.names)) → child_towards f p ≡ Some (record { name = name; folder = folder })
child-there f p name folder below named whole =
    child_at_end f.names p.names p.folder name (and_parts f.folder (is_inside f.names p.names) below).1
    ∙ ap (λ (l : List ℕ). Some (record { name = l; folder = p.folder || nat_lt (length f.names + 1) (length p.names) })) (sym named)
    ∙ ap (λ (b : Bool). Some (record { name = name; folder = b })) (sym whole)

-- ---- paths that pass

all_with : (P : Path → Type 0) (test : Path → Bool) (xs : List Path) → AllByRecursion P xs → AllByRecursion (λ q. P q × (test q ≡ true)) (filter test xs)
all_with P test [] all = tt
all_with P test (x ∷ xs) all = by (all_with P test xs all.1) (test x) refl
  where
    by : AllByRecursion (λ q. P q × (test q ≡ true)) (filter test xs) → (t : Bool) → test x ≡ t → AllByRecursion (λ q. P q × (test q ≡ true)) (cond t (x ∷ filter test xs) (filter test xs))
    by rest true is = ((all.0, is), rest)
    by rest false is = rest

any_with : (p : Path) (test : Path → Bool) (xs : List Path) → test p ≡ true → list_any (same_path p) xs ≡ true → list_any (same_path p) (filter test xs) ≡ true
any_with p test [] hit there = there
any_with p test (x ∷ xs) hit there =
    ⊎_elim
    (λ stays. ap (list_any (same_path p)) (cond-true (test x) (x ∷ filter test xs) (filter test xs) stays) ∙ on (any_with p test xs hit) (same_path p x) refl there)
    (λ goes. ap (list_any (same_path p)) (cond-false (test x) (x ∷ filter test xs) (filter test xs) goes) ∙ any_with p test xs hit (past goes there))
    (cases_Bool (test x))
  where
    on : (list_any (same_path p) xs ≡ true → list_any (same_path p) (filter test xs) ≡ true) → (b : Bool) → same_path p x ≡ b → (b || list_any (same_path p) xs) ≡ true → (same_path p x || list_any (same_path p) (filter test xs)) ≡ true
    on rest true is some = ap (λ t. t || list_any (same_path p) (filter test xs)) is
    on rest false is some = ap (λ t. t || list_any (same_path p) (filter test xs)) is ∙ rest some

    past : test x ≡ false → (same_path p x || list_any (same_path p) xs) ≡ true → list_any (same_path p) xs ≡ true
    past goes some =
        ⊎_elim
        (λ same. absurd (true≢false (sym hit ∙ ap test (same_from p x same) ∙ goes)))
        (λ other. sym (ap (λ t. t || list_any (same_path p) xs) other) ∙ some)
        (cases_Bool (same_path p x))

-- what passes all along is as it is
all_pass : (test : Path → Bool) (xs : List Path) → AllByRecursion (λ q. test q ≡ true) xs → filter test xs ≡ xs
all_pass test [] all = refl
all_pass test (x ∷ xs) all = cond-true (test x) (x ∷ filter test xs) (filter test xs) all.0 ∙ ap (λ l. x ∷ l) (all_pass test xs all.1)

all_later : (test : Path → Bool) (p : Path) (xs : List Path) → ((q : Path) → path_cmp p q ≡ Less → test q ≡ true) → AllBehind p xs → AllByRecursion (λ q. test q ≡ true) xs
all_later test p [] each all = tt
all_later test p (x ∷ xs) each all = (each x all.0, all_later test p xs each all.1)

none_same : (p : Path) (xs : List Path) → AllBehind p xs → list_any (same_path p) xs ≡ false
none_same p [] all = refl
none_same p (x ∷ xs) all = ap (λ b. b || list_any (same_path p) xs) (path_ties p x ∙ ap is_eq all.0) ∙ none_same p xs all.1

-- ---- one path taken

-- what comes before the path and isn't before the start leads nowhere
abbrev Idle : Path → Bound Path → Path → Path → Type 0
Idle f start p q = path_cmp q p ≡ Less → is_started start q ≡ true → child_towards f q ≡ None

module _ (f : Path) where
  abbrev pub To : Path → Option Child
  To q = child_towards f q

  taken_step : (start : Bound Path) (p : Path) (c : Child) (keys : List Child) (xs : List Path) → is_started start p ≡ true → To p ≡ Some c
      → IsStrictlySortedBy path_cmp xs → AllByRecursion (Idle f start p) xs → list_any (same_path p) xs ≡ true
      → Taken To keys (filter (is_started start) xs) ≡ Taken To (insert_key child_cmp keys c) (filter (is_started (Excluded p)) xs)
  unfolding IsStrictlySortedBy
  taken_step start p c keys [] started leads sorted idle there = absurd (true≢false (sym there))
  taken_step start p c keys (x ∷ xs) started leads sorted idle there = by (taken_step start p c keys xs started leads sorted.1 idle.1) (path_cmp x p) refl
    where
      before : path_cmp x p ≡ Less → Taken To keys (filter (is_started start) (x ∷ xs)) ≡ Taken To keys (filter (is_started start) xs)
      before less =
          ⊎_elim
          (λ stays. ap (Taken To keys) (cond-true (is_started start x) (x ∷ filter (is_started start) xs) (filter (is_started start) xs) stays)
          ∙ taken_more To keys x (filter (is_started start) xs) None (idle.0 less stays))
          (λ goes. ap (Taken To keys) (cond-false (is_started start x) (x ∷ filter (is_started start) xs) (filter (is_started start) xs) goes))
          (cases_Bool (is_started start x))

      by : (list_any (same_path p) xs ≡ true → Taken To keys (filter (is_started start) xs) ≡ Taken To (insert_key child_cmp keys c) (filter (is_started (Excluded p)) xs))
          → (r : Ordering) → path_cmp x p ≡ r
          → Taken To keys (filter (is_started start) (x ∷ xs)) ≡ Taken To (insert_key child_cmp keys c) (filter (is_started (Excluded p)) (x ∷ xs))
      by rest Less is =
          let not_there : same_path p x ≡ false = path_ties p x ∙ ap is_eq (path_cmp_total.antisymm p x ∙ ap ordering_reverse is) in
          let later = sym (ap (λ b. b || list_any (same_path p) xs) not_there) ∙ there in
          let out : is_started (Excluded p) x ≡ false = ap is_lt (path_cmp_total.antisymm p x ∙ ap ordering_reverse is) in
          before is ∙ rest later
          ∙ sym (ap (Taken To (insert_key child_cmp keys c)) (cond-false (is_started (Excluded p) x) (x ∷ filter (is_started (Excluded p)) xs) (filter (is_started (Excluded p)) xs) out))
      by rest Equal is =
          let same : x ≡ p = tied_same x p is in
          let behind : AllBehind p xs = subst (λ t. AllBehind t xs) same sorted.0 in
          let here : is_started start x ≡ true = ap (is_started start) same ∙ started in
          let out : is_started (Excluded p) x ≡ false = ap is_lt (path_cmp_total.antisymm p x ∙ ap ordering_reverse is) in
          let one = all_pass (is_started start) xs (all_later (is_started start) p xs (λ q less. started_on start p q started less) behind) in
          let two = all_pass (is_started (Excluded p)) xs (all_later (is_started (Excluded p)) p xs (λ q less. ap is_lt less) behind) in
          ap (Taken To keys) (cond-true (is_started start x) (x ∷ filter (is_started start) xs) (filter (is_started start) xs) here)
          ∙ taken_more To keys x (filter (is_started start) xs) (Some c) (ap To same ∙ leads)
          ∙ ap (Taken To (insert_key child_cmp keys c)) (one ∙ sym two
          ∙ sym (cond-false (is_started (Excluded p) x) (x ∷ filter (is_started (Excluded p)) xs) (filter (is_started (Excluded p)) xs) out))
      by rest Greater is =
          let low = turned_less x p is in
          absurd (true≢false (sym there ∙ none_same p (x ∷ xs) (low, behind_all p x xs low sorted.0)))

  -- what leads to a child that is taken already may be passed over
  taken_skip : (start : Bound Path) (p : Path) (c : Child) (keys : List Child) (xs : List Path) → f.folder ≡ true → insert_key child_cmp keys c ≡ keys
      → ((q : Path) → is_started start q ≡ true → path_cmp p q ≡ Less)
      → ((q : Path) → is_path q ≡ true → is_below f q ≡ true → path_cmp p q ≡ Less → is_started start q ≡ false → To q ≡ Some c)
      → IsStrictlySortedBy path_cmp xs → AllByRecursion (λ q. is_path q ≡ true) xs
      → Taken To keys (filter (is_started (Excluded p)) xs) ≡ Taken To keys (filter (is_started start) xs)
  unfolding IsStrictlySortedBy
  taken_skip start p c keys [] folder again behind same sorted named = refl
  taken_skip start p c keys (x ∷ xs) folder again behind same sorted named =
      ⊎_elim
      (λ starts.
      let low = behind x starts in
      let one = all_pass (is_started (Excluded p)) (x ∷ xs) (ap is_lt low, all_later (is_started (Excluded p)) x xs (λ q less. ap is_lt (path_cmp_total.trans p x q low less)) sorted.0) in
      let two = all_pass (is_started start) (x ∷ xs) (starts, all_later (is_started start) x xs (λ q less. started_on start x q starts less) sorted.0) in
      ap (Taken To keys) (one ∙ sym two))
      (λ not_yet.
      let rest = taken_skip start p c keys xs folder again behind same sorted.1 named.1 in
      here (is_started (Excluded p) x) refl not_yet ∙ rest
      ∙ sym (ap (Taken To keys) (cond-false (is_started start x) (x ∷ filter (is_started start) xs) (filter (is_started start) xs) not_yet)))
      (cases_Bool (is_started start x))
    where
      less_of : (r : Ordering) → is_lt r ≡ true → r ≡ Less
      less_of Less is = refl
      less_of Equal is = absurd (true≢false (sym is))
      less_of Greater is = absurd (true≢false (sym is))

      passed : is_started (Excluded p) x ≡ true → is_started start x ≡ false
          → Taken To keys (x ∷ filter (is_started (Excluded p)) xs) ≡ Taken To keys (filter (is_started (Excluded p)) xs)
      passed behind_it not_yet =
          ⊎_elim
          (λ below. taken_more To keys x (filter (is_started (Excluded p)) xs) (Some c) (same x named.0 below (less_of (path_cmp p x) behind_it) not_yet)
          ∙ ap (λ ks. Taken To ks (filter (is_started (Excluded p)) xs)) again)
          (λ other. taken_more To keys x (filter (is_started (Excluded p)) xs) None (leads_nowhere f x folder other))
          (cases_Bool (is_below f x))

      here : (b : Bool) → is_started (Excluded p) x ≡ b → is_started start x ≡ false
          → Taken To keys (filter (is_started (Excluded p)) (x ∷ xs)) ≡ Taken To keys (filter (is_started (Excluded p)) xs)
      here true is not_yet =
          ap (Taken To keys) (cond-true (is_started (Excluded p) x) (x ∷ filter (is_started (Excluded p)) xs) (filter (is_started (Excluded p)) xs) is) ∙ passed is not_yet
      here false is not_yet =
          ap (Taken To keys) (cond-false (is_started (Excluded p) x) (x ∷ filter (is_started (Excluded p)) xs) (filter (is_started (Excluded p)) xs) is)

-- ---- the whole

-- what a list has so far, and the path that comes next
pub record IsListing (s : State) (f : Path) (keys : List Child) (next : Option Path) : Type 0 where
  pub start : Bound Path
  pub at : next ≡ first_shown s f start
  pub left : Taken (To f) keys (filter (is_started start) (shown_paths s)) ≡ shown_children s f

pub list-start : (s : State) (f : Path) (next : Option Path) → f.folder ≡ true → next ≡ first_shown s f (Excluded f) → IsListing s f [] next
list-start s f next folder at = record {
  start = Excluded f;
  at = at;
  left = taken-left_out (To f) (is_started (Excluded f)) [] (shown_paths s) (λ q out. nowhere q out (is_below f q) refl);
}
  where
    nowhere : (q : Path) → is_started (Excluded f) q ≡ false → (b : Bool) → is_below f q ≡ b → child_towards f q ≡ None
    nowhere q out true below = absurd (true≢false (sym (ap is_lt (below-behind f q below)) ∙ out))
    nowhere q out false other = leads_nowhere f q folder other

-- a shown path that doesn't pass isn't below the folder
not_shown : (s : State) (f q : Path) (start : Bound Path) → (is_started start q && is_shown_below s f q) ≡ false → is_viewed s q ≡ true → is_started start q ≡ true
    → is_below f q ≡ false
not_shown s f q start clear viewed started = by (is_below f q) refl
  where
    by : (b : Bool) → is_below f q ≡ b → is_below f q ≡ false
    by false other = other
    by true below = absurd (true≢false (sym (and_from _ _ started (and_from _ _ below viewed)) ∙ clear))

weaker : (P Q : Path → Type 0) (xs : List Path) → ((q : Path) → P q → Q q) → AllByRecursion P xs → AllByRecursion Q xs
weaker P Q [] each all = tt
weaker P Q (x ∷ xs) each all = (each x all.0, weaker P Q xs each all.1)

sorted_shown : (s : State) → IsStrictlySortedBy path_cmp (known_paths s) → IsStrictlySortedBy path_cmp (shown_paths s)
sorted_shown s sorted = sorted_filter is_path (filter (is_viewed s) (known_paths s)) (sorted_filter (is_viewed s) (known_paths s) sorted)

named_shown : (s : State) → AllByRecursion (λ q. is_path q ≡ true) (shown_paths s)
named_shown s = passing (λ q. is_path q ≡ true) is_path (filter (is_viewed s) (known_paths s)) (λ q is. is)

-- the child of the next path is taken, and what leads to it is passed over
pub list-next : (s : State) (f p : Path) (c : Child) (keys new : List Child) (next : Option Path) → f.folder ≡ true → IsStrictlySortedBy path_cmp (known_paths s)
    → IsListing s f keys (Some p) → is_path p ≡ true → child_towards f p ≡ Some c → new ≡ insert_key child_cmp keys c → IsNextChild s f p next → IsListing s f new next
list-next s f p c keys new next folder sorted listing named leads taken following =
    let test : Path → Bool = λ q. is_started listing.start q && is_shown_below s f q in
    let found : find test (known_paths s) ≡ Some p = sym listing.at in
    let passes = and_parts (is_started listing.start p) (is_shown_below s f p) (found-passes test (known_paths s) p found) in
    let viewed = and_parts (is_below f p) (is_viewed s p) passes.1 in
    let there = any_with p is_path (filter (is_viewed s) (known_paths s)) named
    (any_with p (is_viewed s) (known_paths s) viewed.1 (found_there test (known_paths s) p found)) in
    let Before : Path → Type 0 = λ q. path_cmp q p ≡ Less → test q ≡ false in
    let Shown : Path → Type 0 = λ q. (Before q × (is_viewed s q ≡ true)) × (is_path q ≡ true) in
    let every = all_with (λ q. Before q × (is_viewed s q ≡ true)) is_path (filter (is_viewed s) (known_paths s))
    (all_with Before (is_viewed s) (known_paths s) (before_found test (known_paths s) p sorted found)) in
    let idle = weaker Shown (Idle f listing.start p) (shown_paths s)
    (λ q is less started. leads_nowhere f q folder (not_shown s f q listing.start (is.0.0 less) is.0.1 started)) every in
    let step = taken_step f listing.start p c keys (shown_paths s) passes.0 leads (sorted_shown s sorted) idle there in
    let skip = taken_skip f following.start p c (insert_key child_cmp keys c) (shown_paths s) folder (insert-again c keys) following.behind
    (λ q named below less out. following.same q named below less out ∙ leads) (sorted_shown s sorted) (named_shown s) in
    record {
      start = following.start;
      at = following.at;
      left = ap (λ ks. Taken (To f) ks (filter (is_started following.start) (shown_paths s))) taken ∙ sym skip ∙ sym step ∙ listing.left;
    }

-- the next path is below the folder
pub listing-below : (s : State) (f p : Path) (keys : List Child) → IsListing s f keys (Some p) → is_below f p ≡ true
listing-below s f p keys listing =
    let passes = and_parts (is_started listing.start p) (is_shown_below s f p)
    (found-passes (λ q. is_started listing.start q && is_shown_below s f q) (known_paths s) p (sym listing.at)) in
    (and_parts (is_below f p) (is_viewed s p) passes.1).0

-- the known paths are in order, since those of the base are
pub known-sorted : (s : State) → IsStrictlySortedBy path_cmp (keys_of s.base) → IsStrictlySortedBy path_cmp (known_paths s)
known-sorted s sorted = sorted-fold (keys_of s.base) (keys_of s.pending) sorted

-- where none comes next, all was taken
pub list-end : (s : State) (f : Path) (keys : List Child) → f.folder ≡ true → IsListing s f keys None → keys ≡ shown_children s f
list-end s f keys folder listing =
    let test : Path → Bool = λ q. is_started listing.start q && is_shown_below s f q in
    let Out : Path → Type 0 = λ q. test q ≡ false in
    let every = all_with (λ q. (Out q × (is_viewed s q ≡ true)) × (is_path q ≡ true)) (is_started listing.start) (shown_paths s)
    (all_with (λ q. Out q × (is_viewed s q ≡ true)) is_path (filter (is_viewed s) (known_paths s))
    (all_with Out (is_viewed s) (known_paths s) (none_found test (known_paths s) (sym listing.at)))) in
    let none = weaker (λ q. ((Out q × (is_viewed s q ≡ true)) × (is_path q ≡ true)) × (is_started listing.start q ≡ true)) (λ q. child_towards f q ≡ None)
    (filter (is_started listing.start) (shown_paths s))
    (λ q is. leads_nowhere f q folder (not_shown s f q listing.start is.0.0.0 is.0.0.1 is.1)) every in
    sym (taken-none (To f) keys (filter (is_started listing.start) (shown_paths s)) none) ∙ listing.left

-- ---- how many are still to come

le_on : (p q x : Path) → path_cmp p q ≡ Less → is_le (path_cmp q x) ≡ true → is_le (path_cmp p x) ≡ true
le_on p q x less within = by (path_cmp q x) refl within
  where
    by : (r : Ordering) → path_cmp q x ≡ r → is_le r ≡ true → is_le (path_cmp p x) ≡ true
    by Less is within = ap is_le (path_cmp_total.trans p q x less is)
    by Equal is within = ap is_le (sym (ap (path_cmp p) (tied_same q x is)) ∙ less)
    by Greater is within = absurd (true≢false (sym within))

fewer_by : (a b : Bool) (x : Path) (l m : List Path) → (a ≡ true → b ≡ true) → length l ≤ length m → length (cond a (x ∷ l) l) ≤ length (cond b (x ∷ m) m)
fewer_by true true x l m also fewer = omega (arith, fewer)
fewer_by true false x l m also fewer = absurd (true≢false (sym (also refl)))
fewer_by false true x l m also fewer = omega (arith, fewer)
fewer_by false false x l m also fewer = fewer

less_by : (a b : Bool) (x : Path) (l m : List Path) → (a ≡ true → b ≡ true) → length l < length m → length (cond a (x ∷ l) l) < length (cond b (x ∷ m) m)
less_by true true x l m also fewer = omega (arith, fewer)
less_by true false x l m also fewer = absurd (true≢false (sym (also refl)))
less_by false true x l m also fewer = omega (arith, fewer)
less_by false false x l m also fewer = fewer

one_less : (x : Path) (l m : List Path) → length l ≤ length m → length l < length (x ∷ m)
one_less x l m fewer = omega (arith, fewer)

abbrev at_or_behind : Path → Path → Bool
at_or_behind p q = is_le (path_cmp p q)

no_more_behind : (p q : Path) (xs : List Path) → path_cmp p q ≡ Less → length (filter (at_or_behind q) xs) ≤ length (filter (at_or_behind p) xs)
no_more_behind p q [] less = omega arith
no_more_behind p q (x ∷ xs) less =
    fewer_by (at_or_behind q x) (at_or_behind p x) x (filter (at_or_behind q) xs) (filter (at_or_behind p) xs) (λ within. le_on p q x less within) (no_more_behind p q xs less)

fewer_behind : (p q : Path) (xs : List Path) → path_cmp p q ≡ Less → list_any (same_path p) xs ≡ true → length (filter (at_or_behind q) xs) < length (filter (at_or_behind p) xs)
fewer_behind p q [] less there = absurd (true≢false (sym there))
fewer_behind p q (x ∷ xs) less there =
    ⊎_elim
    (λ same.
    let is : p ≡ x = same_from p x same in
    let out : at_or_behind q x ≡ false = ap is_le (ap (path_cmp q) (sym is) ∙ path_cmp_total.antisymm q p ∙ ap ordering_reverse less) in
    let stays : at_or_behind p x ≡ true = ap is_le (ap (path_cmp p) (sym is) ∙ tied_itself path_cmp_total p) in
    subst (λ (l : List Path). length l < length (filter (at_or_behind p) (x ∷ xs))) (sym (cond-false (at_or_behind q x) (x ∷ filter (at_or_behind q) xs) (filter (at_or_behind q) xs) out))
    (subst (λ (l : List Path). length (filter (at_or_behind q) xs) < length l) (sym (cond-true (at_or_behind p x) (x ∷ filter (at_or_behind p) xs) (filter (at_or_behind p) xs) stays))
    (one_less x (filter (at_or_behind q) xs) (filter (at_or_behind p) xs) (no_more_behind p q xs less))))
    (λ other. less_by (at_or_behind q x) (at_or_behind p x) x (filter (at_or_behind q) xs) (filter (at_or_behind p) xs) (λ within. le_on p q x less within)
    (fewer_behind p q xs less (sym (ap (λ b. b || list_any (same_path p) xs) other) ∙ there)))
    (cases_Bool (same_path p x))

some_from : (p : Path) (xs : List Path) → list_any (same_path p) xs ≡ true → 0 < length (filter (at_or_behind p) xs)
some_from p [] there = absurd (true≢false (sym there))
some_from p (x ∷ xs) there = by (some_from p xs) (at_or_behind p x) refl
  where
    by : (list_any (same_path p) xs ≡ true → 0 < length (filter (at_or_behind p) xs)) → (b : Bool) → at_or_behind p x ≡ b → 0 < length (cond b (x ∷ filter (at_or_behind p) xs) (filter (at_or_behind p) xs))
    by rest true is = omega arith
    by rest false is =
        rest
        (sym (ap (λ b. b || list_any (same_path p) xs)
        (⊎_elim
        (λ same. absurd (true≢false (sym (ap is_le (ap (path_cmp p) (sym (same_from p x same)) ∙ tied_itself path_cmp_total p)) ∙ is)))
        (λ other. other)
        (cases_Bool (same_path p x)))) ∙ there)

-- the next path has fewer behind it
pub list-shorter : (s : State) (f p : Path) (next : Option Path) (keys : List Child) → IsListing s f keys (Some p) → IsNextChild s f p next
    → still_to_come s next < still_to_come s (Some p)
list-shorter s f p None keys listing following =
    some_from p (known_paths s) (found_there (λ q. is_started listing.start q && is_shown_below s f q) (known_paths s) p (sym listing.at))
list-shorter s f p (Some q) keys listing following =
    let found : find (λ r. is_started following.start r && is_shown_below s f r) (known_paths s) ≡ Some q = sym following.at in
    let started = (and_parts (is_started following.start q) (is_shown_below s f q)
    (found-passes (λ r. is_started following.start r && is_shown_below s f r) (known_paths s) q found)).0 in
    fewer_behind p q (known_paths s) (following.behind q started)
    (found_there (λ r. is_started listing.start r && is_shown_below s f r) (known_paths s) p (sym listing.at))
