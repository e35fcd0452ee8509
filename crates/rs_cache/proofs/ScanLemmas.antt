-- The first path of a range that is below a folder and shown: paths below a folder follow one another.
use Rattle.std.proofs.Common.{◌≡◌, Bool, true, false, not, ◌&&◌, ◌||◌, cond, nat_eq, List, [], ◌∷◌, filter, fold, map, Option, Some, None, refl, sym, ap, ◌∙◌, subst, ◌⊎◌, inl, inr, ⊎_elim}
use Rattle.std.specs.Prelude.{find}
use Rattle.std.specs.List.{starts_with, AllByRecursion}
use Rattle.std.specs.List.Sorted.{IsStrictlySortedBy}
use Rattle.std.specs.declared.cmp.Ordering.{Ordering}
use Rattle.std.specs.declared.cmp.Ordering.TheVariants.{Less, Equal, Greater}
use Rattle.std.specs.declared.ops.Bound.{Bound}
use Rattle.std.specs.declared.ops.Bound.TheVariants.{Excluded, Unbounded}
use Rattle.std.specs.Ordering.{is_lt, is_gt, is_eq, ordering_reverse}
use Rattle.std.specs.BTreeMap.Range.{entries_between}
use Rattle.std.specs.BTreeSet.{insert_key}
use Rattle.std.specs.Map.{keys_of}
use Rattle.std.proofs.lemmas.Bool.{cases_Bool, true≢false, and_right, and_parts, and_from}
use Rattle.rs_path.specs.Paths.{Path, folder_at, same_path, plain_text, path_cmp}
use Rattle.rs_path.specs.PathOrder.{path_cmp_total, path_ties}
use Rattle.rs_path.specs.Below.{is_below}
use Rattle.rs_cache.specs.Firsts.{lesser_path, is_shown_below, is_started, first_shown}
use Rattle.rs_cache.specs.Asked.{from_after, later_path}
use Rattle.rs_cache.specs.States.{State}
use Rattle.rs_cache.specs.Views.{is_viewed, known_paths, viewed_paths, viewed_below}
use Rattle.rs_cache.proofs.BelowLemmas.{starts-between, below-behind, below-starts}
use Rattle.rs_cache.proofs.FirstLemmas.{find-both, find-filter, find-same, keys-filter}

-- ---- ranges

and_all : (a b : Bool) → ((a && true) && b) ≡ (a && b)
and_all true b = refl
and_all false b = refl

-- the first that passes in a range is the first from its start on that does
pub range-first : {X : Type 0} (start : Bound Path) (test : Path → Bool) (es : List (Path × X))
    → find test (keys_of (entries_between path_cmp start Unbounded es)) ≡ find (λ q. is_started start q && test q) (keys_of es)
range-first start test es =
    ap (find test) (keys-filter (λ q. is_started start q && true) es)
    ∙ find-filter test (λ q. is_started start q && true) (keys_of es)
    ∙ find-same (λ q. (is_started start q && true) && test q) (λ q. is_started start q && test q) (keys_of es) (λ q. and_all (is_started start q) (test q))

all_filter_by : (P : Path → Type 0) (test : Path → Bool) (x : Path) (xs : List Path) (t : Bool) → P x → AllByRecursion P (filter test xs)
    → AllByRecursion P (cond t (x ∷ filter test xs) (filter test xs))
all_filter_by P test x xs true here rest = (here, rest)
all_filter_by P test x xs false here rest = rest

all_filter : (P : Path → Type 0) (test : Path → Bool) (xs : List Path) → AllByRecursion P xs → AllByRecursion P (filter test xs)
all_filter P test [] all = tt
all_filter P test (x ∷ xs) all = all_filter_by P test x xs (test x) all.0 (all_filter P test xs all.1)

sorted_filter_by : (test : Path → Bool) (x : Path) (xs : List Path) (t : Bool) → AllByRecursion (λ y. path_cmp x y ≡ Less) (filter test xs)
    → IsStrictlySortedBy path_cmp (filter test xs) → IsStrictlySortedBy path_cmp (cond t (x ∷ filter test xs) (filter test xs))
unfolding IsStrictlySortedBy
sorted_filter_by test x xs true all rest = (all, rest)
sorted_filter_by test x xs false all rest = rest

pub sorted_filter : (test : Path → Bool) (xs : List Path) → IsStrictlySortedBy path_cmp xs → IsStrictlySortedBy path_cmp (filter test xs)
unfolding IsStrictlySortedBy
sorted_filter test [] sorted = tt
sorted_filter test (x ∷ xs) sorted =
    sorted_filter_by test x xs (test x) (all_filter (λ y. path_cmp x y ≡ Less) test xs sorted.0) (sorted_filter test xs sorted.1)

passing_by : (P : Path → Type 0) (test : Path → Bool) (x : Path) (xs : List Path) (t : Bool) → test x ≡ t → ((q : Path) → test q ≡ true → P q)
    → AllByRecursion P (filter test xs) → AllByRecursion P (cond t (x ∷ filter test xs) (filter test xs))
passing_by P test x xs true is each rest = (each x is, rest)
passing_by P test x xs false is each rest = rest

pub passing : (P : Path → Type 0) (test : Path → Bool) (xs : List Path) → ((q : Path) → test q ≡ true → P q) → AllByRecursion P (filter test xs)
passing P test [] each = tt
passing P test (x ∷ xs) each = passing_by P test x xs (test x) refl each (passing P test xs each)

-- what is left of a range is in order, and behind the folder
pub record IsLeft (folder : Path) (keys : List Path) : Type 0 where
  pub sorted : IsStrictlySortedBy path_cmp keys
  pub behind : AllByRecursion (λ q. path_cmp folder q ≡ Less) keys

first_true : (a : Bool) → (a && true) ≡ true → a ≡ true
first_true true is = refl
first_true false is = is

pub range-left : {X : Type 0} (folder : Path) (start : Bound Path) (es : List (Path × X)) → IsStrictlySortedBy path_cmp (keys_of es)
    → ((q : Path) → is_started start q ≡ true → path_cmp folder q ≡ Less) → IsLeft folder (keys_of (entries_between path_cmp start Unbounded es))
range-left folder start es sorted each =
    let test : Path → Bool = λ q. is_started start q && true in
    let same = sym (keys-filter test es) in
    record {
      sorted = subst (IsStrictlySortedBy path_cmp) same (sorted_filter test (keys_of es) sorted);
      behind = subst (AllByRecursion (λ q. path_cmp folder q ≡ Less)) same
          (passing (λ q. path_cmp folder q ≡ Less) test (keys_of es) (λ q is. each q (first_true (is_started start q) is)));
    }

pub IsLeft-tail : (folder q : Path) (qs : List Path) → IsLeft folder (q ∷ qs) → IsLeft folder qs
unfolding IsStrictlySortedBy
IsLeft-tail folder q qs left = record { sorted = left.sorted.1; behind = left.behind.1 }

-- ---- steps

-- a path that isn't shown below the folder is passed by
pub scan-on : (test : Path → Bool) (q : Path) (qs : List Path) → test q ≡ false → find test (q ∷ qs) ≡ find test qs
scan-on test q qs clear = ap (λ b. cond b (Some q) (find test qs)) clear

pub scan-hit : (test : Path → Bool) (q : Path) (qs : List Path) → test q ≡ true → find test (q ∷ qs) ≡ Some q
scan-hit test q qs hit = ap (λ b. cond b (Some q) (find test qs)) hit

not_below : (folder q r : Path) → path_cmp folder q ≡ Less → path_cmp q r ≡ Less → starts_with nat_eq (plain_text q) (plain_text folder) ≡ false
    → is_below folder r ≡ false
not_below folder q r low high other =
    ⊎_elim
    (λ below. absurd (true≢false (sym (starts-between folder q r low high (below-starts folder r below)) ∙ other)))
    (λ clear. clear)
    (cases_Bool (is_below folder r))

none_later : (s : State) (folder q : Path) (rs : List Path) → path_cmp folder q ≡ Less → starts_with nat_eq (plain_text q) (plain_text folder) ≡ false
    → AllByRecursion (λ r. path_cmp q r ≡ Less) rs → find (is_shown_below s folder) rs ≡ None
none_later s folder q [] low other all = refl
none_later s folder q (r ∷ rs) low other all =
    scan-on (is_shown_below s folder) r rs (ap (λ b. b && is_viewed s r) (not_below folder q r low all.0 other))
    ∙ none_later s folder q rs low other all.1

-- behind a path whose text doesn't begin with the folder's none is below the folder
pub scan-stop : (s : State) (folder q : Path) (qs : List Path) → IsLeft folder (q ∷ qs)
    → starts_with nat_eq (plain_text q) (plain_text folder) ≡ false → find (is_shown_below s folder) (q ∷ qs) ≡ None
unfolding IsStrictlySortedBy
scan-stop s folder q qs left other =
    let clear : is_below folder q ≡ false = ⊎_elim
    (λ below. absurd (true≢false (sym (below-starts folder q below) ∙ other)))
    (λ clear. clear)
    (cases_Bool (is_below folder q)) in
    scan-on (is_shown_below s folder) q qs (ap (λ b. b && is_viewed s q) clear)
    ∙ none_later s folder q qs left.behind.0 other left.sorted.0

-- ---- the whole

-- the first of the view is the lesser of the first with a base and the first with a change
pub shown-lesser : (s : State) (folder : Path) (start : Bound Path) → IsStrictlySortedBy path_cmp (keys_of s.base) → IsStrictlySortedBy path_cmp (keys_of s.pending)
    → first_shown s folder start ≡ lesser_path (find (λ q. is_started start q && is_shown_below s folder q) (keys_of s.base))
    (find (λ q. is_started start q && is_shown_below s folder q) (keys_of s.pending))
shown-lesser s folder start base pending =
    find-both (λ q. is_started start q && is_shown_below s folder q) (keys_of s.base) (keys_of s.pending) base pending

turned_and : (a b : Bool) (c : Bool) → (b ≡ true → c ≡ true) → (a && b) ≡ (c && (b && a))
turned_and true true c is = sym (ap (λ t. t && true) (is refl))
turned_and true false c is = sym (and_right c false refl)
turned_and false true c is = sym (and_right c false refl)
turned_and false false c is = sym (and_right c false refl)

-- the least document of the view below the names is the first behind their folder
pub below-first : (s : State) (path : Path) → viewed_below s path ≡ first_shown s (folder_at path.names) (Excluded (folder_at path.names))
below-first s path =
    let folder = folder_at path.names in
    find-filter (is_below folder) (is_viewed s) (known_paths s)
    ∙ find-same (λ q. is_viewed s q && is_below folder q) (λ q. is_started (Excluded folder) q && is_shown_below s folder q) (known_paths s)
    (λ q. turned_and (is_viewed s q) (is_below folder q) (is_started (Excluded folder) q) (λ below. ap is_lt (below-behind folder q below)))

-- from behind a folder on, all is behind it
pub started-behind : (folder q : Path) → is_started (Excluded folder) q ≡ true → path_cmp folder q ≡ Less
started-behind folder q started = by (path_cmp folder q) started
  where
    by : (r : Ordering) → is_lt r ≡ true → r ≡ Less
    by Less is = refl
    by Equal is = absurd (true≢false (sym is))
    by Greater is = absurd (true≢false (sym is))

-- ---- the next one

and_true : (a : Bool) → (a && true) ≡ a
and_true true = refl
and_true false = refl

started-first : {X : Type 0} (start : Bound Path) (es : List (Path × X))
    → find (λ p. true) (keys_of (entries_between path_cmp start Unbounded es)) ≡ find (is_started start) (keys_of es)
started-first start es =
    range-first start (λ q. true) es ∙ find-same (λ q. is_started start q && true) (is_started start) (keys_of es) (λ q. and_true (is_started start q))

-- the first of a range is the first from its start on
pub next-some : {X : Type 0} (start : Bound Path) (es : List (Path × X)) (e : Path × X) (rest : List (Path × X))
    → entries_between path_cmp start Unbounded es ≡ e ∷ rest → find (is_started start) (keys_of es) ≡ Some e.0
next-some start es e rest is = sym (started-first start es) ∙ ap (λ l. find (λ (p : Path). true) (keys_of l)) is

pub next-none : {X : Type 0} (start : Bound Path) (es : List (Path × X)) → entries_between path_cmp start Unbounded es ≡ [] → find (is_started start) (keys_of es) ≡ None
next-none start es is = sym (started-first start es) ∙ ap (λ l. find (λ (p : Path). true) (keys_of l)) is

-- ---- the next one below a folder

abbrev NextBelow : Path → Option Path → Path → Bool
NextBelow folder after q = is_below folder q && is_started (from_after after) q

lt-less : (r : Ordering) → is_lt r ≡ true → r ≡ Less
lt-less Less is = refl
lt-less Equal is = absurd (true≢false (sym is))
lt-less Greater is = absurd (true≢false (sym is))

later_started : (folder q : Path) (after : Option Path) → is_below folder q ≡ true → is_started (from_after after) q ≡ true
    → is_started (Excluded (later_path folder after)) q ≡ true
later_started folder q None below started = ap is_lt (below-behind folder q below)
later_started folder q (Some a) below started = by (is_lt (path_cmp folder a))
  where
    by : (b : Bool) → is_started (Excluded (cond b a folder)) q ≡ true
    by true = started
    by false = ap is_lt (below-behind folder q below)

not_more : (r s : Ordering) → r ≡ ordering_reverse s → is_lt s ≡ false → (r ≡ Less) ⊎ (r ≡ Equal)
not_more Less s turned not_less = inl refl
not_more Equal s turned not_less = inr refl
not_more Greater Less turned not_less = absurd (true≢false not_less)
not_more Greater Equal turned not_less = absurd (true≢false (ap is_gt turned))
not_more Greater Greater turned not_less = absurd (true≢false (ap is_gt turned))

behind_both : (folder a q : Path) → is_lt (path_cmp folder a) ≡ false → path_cmp folder q ≡ Less → path_cmp a q ≡ Less
behind_both folder a q not_less low =
    ⊎_elim
    (λ less. path_cmp_total.trans a folder q less low)
    (λ tied. path_cmp_total.congr a folder q tied ∙ low)
    (not_more (path_cmp a folder) (path_cmp folder a) (path_cmp_total.antisymm a folder) not_less)

started_from : (folder q : Path) (after : Option Path) → is_started (Excluded (later_path folder after)) q ≡ true → is_started (from_after after) q ≡ true
started_from folder q None started = refl
started_from folder q (Some a) started = by (is_lt (path_cmp folder a)) refl started
  where
    by : (b : Bool) → is_lt (path_cmp folder a) ≡ b → is_started (Excluded (cond b a folder)) q ≡ true → is_started (Excluded a) q ≡ true
    by true is started = started
    by false is started = ap is_lt (behind_both folder a q is (lt-less (path_cmp folder q) started))

behind_folder : (folder q : Path) (after : Option Path) → is_started (Excluded (later_path folder after)) q ≡ true → path_cmp folder q ≡ Less
behind_folder folder q None started = lt-less (path_cmp folder q) started
behind_folder folder q (Some a) started = by (is_lt (path_cmp folder a)) refl started
  where
    by : (b : Bool) → is_lt (path_cmp folder a) ≡ b → is_started (Excluded (cond b a folder)) q ≡ true → path_cmp folder q ≡ Less
    by true is started = path_cmp_total.trans folder a q (lt-less (path_cmp folder a) is) (lt-less (path_cmp a q) started)
    by false is started = lt-less (path_cmp folder q) started

implied : (a b : Bool) → (a ≡ true → b ≡ true) → (b && a) ≡ a
implied true b is = ap (λ t. t && true) (is refl)
implied false b is = and_right b false refl

below_range : {X : Type 0} (folder : Path) (after : Option Path) (es : List (Path × X))
    → find (NextBelow folder after) (keys_of (entries_between path_cmp (Excluded (later_path folder after)) Unbounded es)) ≡ find (NextBelow folder after) (keys_of es)
below_range folder after es =
    range-first (Excluded (later_path folder after)) (NextBelow folder after) es
    ∙ find-same (λ q. is_started (Excluded (later_path folder after)) q && NextBelow folder after q) (NextBelow folder after) (keys_of es)
    (λ q. implied (NextBelow folder after q) (is_started (Excluded (later_path folder after)) q)
    (λ both. let parts = and_parts (is_below folder q) (is_started (from_after after) q) both in later_started folder q after parts.0 parts.1))

within_folder : (folder q : Path) (b : Bool) → path_cmp folder q ≡ Less → b ≡ (same_path folder q || is_below folder q) → b ≡ is_below folder q
within_folder folder q b low is = is ∙ ap (λ t. t || is_below folder q) (path_ties folder q ∙ ap is_eq low)

first_in_range : {X : Type 0} (start : Bound Path) (es : List (Path × X)) (e : Path × X) (rest : List (Path × X))
    → entries_between path_cmp start Unbounded es ≡ e ∷ rest → is_started start e.0 ≡ true
first_in_range start es e rest is =
    let whole = passing (λ q. is_started start q ≡ true) (λ q. is_started start q && true) (keys_of es) (λ q both. first_true (is_started start q) both) in
    let here = subst (AllByRecursion (λ q. is_started start q ≡ true)) (sym (keys-filter (λ q. is_started start q && true) es) ∙ ap keys_of is) whole in
    here.0

-- where the first behind both is below the folder, it is the next one; where it isn't, there is none
pub below-next : {X : Type 0} (folder : Path) (after : Option Path) (es : List (Path × X)) (e : Path × X) (rest : List (Path × X))
    → entries_between path_cmp (Excluded (later_path folder after)) Unbounded es ≡ e ∷ rest
    → (b : Bool) → b ≡ (same_path folder e.0 || is_below folder e.0) → b ≡ true
    → find (λ path. is_below folder path && is_started (from_after after) path) (keys_of es) ≡ Some e.0
below-next folder after es e rest is b within hit =
    let started = first_in_range (Excluded (later_path folder after)) es e rest is in
    let below = sym (within_folder folder e.0 b (behind_folder folder e.0 after started) within) ∙ hit in
    sym (below_range folder after es)
    ∙ ap (λ l. find (NextBelow folder after) (keys_of l)) is
    ∙ scan-hit (NextBelow folder after) e.0 (keys_of rest) (and_from _ _ below (started_from folder e.0 after started))

none_further : (folder q : Path) (after : Option Path) (rs : List Path) → path_cmp folder q ≡ Less → starts_with nat_eq (plain_text q) (plain_text folder) ≡ false
    → AllByRecursion (λ r. path_cmp q r ≡ Less) rs → find (NextBelow folder after) rs ≡ None
none_further folder q after [] low other all = refl
none_further folder q after (r ∷ rs) low other all =
    scan-on (NextBelow folder after) r rs (ap (λ b. b && is_started (from_after after) r) (not_below folder q r low all.0 other))
    ∙ none_further folder q after rs low other all.1

pub below-other : {X : Type 0} (folder : Path) (after : Option Path) (es : List (Path × X)) (e : Path × X) (rest : List (Path × X))
    → IsStrictlySortedBy path_cmp (keys_of es)
    → entries_between path_cmp (Excluded (later_path folder after)) Unbounded es ≡ e ∷ rest
    → starts_with nat_eq (plain_text e.0) (plain_text folder) ≡ false
    → find (λ path. is_below folder path && is_started (from_after after) path) (keys_of es) ≡ None
unfolding IsStrictlySortedBy
below-other folder after es e rest sorted is other =
    let start : Bound Path = Excluded (later_path folder after) in
    let started = first_in_range start es e rest is in
    let low = behind_folder folder e.0 after started in
    let test : Path → Bool = λ q. is_started start q && true in
    let left = subst (IsStrictlySortedBy path_cmp) (sym (keys-filter test es) ∙ ap keys_of is) (sorted_filter test (keys_of es) sorted) in
    let clear : is_below folder e.0 ≡ false = ⊎_elim
    (λ below. absurd (true≢false (sym (below-starts folder e.0 below) ∙ other)))
    (λ clear. clear)
    (cases_Bool (is_below folder e.0)) in
    sym (below_range folder after es)
    ∙ ap (λ l. find (NextBelow folder after) (keys_of l)) is
    ∙ scan-on (NextBelow folder after) e.0 (keys_of rest) (ap (λ b. b && is_started (from_after after) e.0) clear)
    ∙ none_further folder e.0 after (keys_of rest) low other left.0

pub below-none : {X : Type 0} (folder : Path) (after : Option Path) (es : List (Path × X))
    → entries_between path_cmp (Excluded (later_path folder after)) Unbounded es ≡ []
    → find (λ path. is_below folder path && is_started (from_after after) path) (keys_of es) ≡ None
below-none folder after es is = sym (below_range folder after es) ∙ ap (λ l. find (NextBelow folder after) (keys_of l)) is

-- ---- a scan

-- what a scan of the paths from the start on has still to look at
pub record IsScanning (s : State) (folder : Path) (start : Bound Path) (all rest : List Path) : Type 0 where
  pub first : find (λ q. is_started start q && is_shown_below s folder q) all ≡ find (is_shown_below s folder) rest
  pub left : IsLeft folder rest
  pub ordered : IsStrictlySortedBy path_cmp all

pub scan-start : {X : Type 0} (s : State) (folder : Path) (start : Bound Path) (es : List (Path × X)) → IsStrictlySortedBy path_cmp (keys_of es)
    → ((q : Path) → is_started start q ≡ true → path_cmp folder q ≡ Less)
    → IsScanning s folder start (keys_of es) (keys_of (entries_between path_cmp start Unbounded es))
scan-start s folder start es sorted each = record {
  first = sym (range-first start (is_shown_below s folder) es);
  left = range-left folder start es sorted each;
  ordered = sorted;
}

pub scan-next : (s : State) (folder : Path) (start : Bound Path) (all : List Path) (q : Path) (qs : List Path)
    → IsScanning s folder start all (q ∷ qs) → is_viewed s q ≡ false → IsScanning s folder start all qs
scan-next s folder start all q qs is clear = record {
  first = is.first ∙ scan-on (is_shown_below s folder) q qs (and_right (is_below folder q) (is_viewed s q) clear);
  left = IsLeft-tail folder q qs is.left;
  ordered = is.ordered;
}

pub scan-found : (s : State) (folder : Path) (start : Bound Path) (all : List Path) (q : Path) (qs : List Path) → IsScanning s folder start all (q ∷ qs)
    → (b : Bool) → b ≡ (same_path folder q || is_below folder q) → b ≡ true → is_viewed s q ≡ true
    → find (λ q. is_started start q && is_shown_below s folder q) all ≡ Some q
unfolding IsStrictlySortedBy
scan-found s folder start all q qs is b within hit viewed =
    let low = is.left.behind.0 in
    let below = sym (within_folder folder q b low within) ∙ hit in
    is.first ∙ scan-hit (is_shown_below s folder) q qs (and_from _ _ below viewed)

pub scan-ended : (s : State) (folder : Path) (start : Bound Path) (all : List Path) (q : Path) (qs : List Path) → IsScanning s folder start all (q ∷ qs)
    → starts_with nat_eq (plain_text q) (plain_text folder) ≡ false
    → find (λ q. is_started start q && is_shown_below s folder q) all ≡ None
scan-ended s folder start all q qs is other = is.first ∙ scan-stop s folder q qs is.left other
