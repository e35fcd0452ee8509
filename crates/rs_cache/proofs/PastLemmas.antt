-- Between a path below a folder's child and the path past that child there is nothing but what is below the child.
use Rattle.std.proofs.Common.{◌≡◌, ℕ, ◌+◌, ◌<◌, ◌≤◌, Bool, true, false, ◌==◌, List, [], ◌∷◌, ◌++◌, length, get_or, Option, Some, None, Ok, All, cond, arith, refl, sym, ap, ◌∙◌, append-nil}
use Rattle.std.specs.List.{list_all}
use Rattle.std.specs.Str.{bytes_eq}
use Rattle.std.specs.declared.cmp.Ordering.{Ordering}
use Rattle.std.specs.declared.cmp.Ordering.TheVariants.{Less, Equal, Greater}
use Rattle.std.specs.Ordering.{nat_cmp, ordering_then, is_gt, is_lt, is_le, is_eq}
use Rattle.std.specs.Cmp.{tied_itself, nat_cmp_total}
use Rattle.std.specs.Cmp.Lexicographic.{slice_cmp, texts_ties}
use Rattle.std.proofs.lemmas.Bool.{and_parts, and_from, true≢false, false≢true, cond-true}
use Rattle.std.proofs.lemmas.Bool.Decides.{nat_tests}
use Rattle.std.proofs.lemmas.List.Elements.{All-head, All-tail}
use Rattle.std.proofs.lemmas.Slice.Eq.{bytes_eq-Decides}
use Rattle.rs_path.specs.Names.{is_name}
use Rattle.rs_path.specs.Paths.{Path, is_path, is_nil, text_of, plain_text, path_cmp}
use Rattle.rs_path.specs.Below.{is_inside, is_below}
use Rattle.rs_path.specs.Children.{child_from, child_towards}
use Rattle.rs_path.specs.PathOrder.{path_cmp_total}
use Rattle.rs_path.specs.Readings.{is_slash, plain_reading}
use Rattle.rs_path.proofs.Cited.{name_without_slash, plain_reading-plain_text}
use Rattle.rs_cache.specs.PastChildren.{IsPastChild}
use Rattle.rs_cache.proofs.FirstLemmas.{tied_same, turned_less}
use Rattle.rs_cache.proofs.BelowLemmas.{first_within, past_equal, then_within, cmp-front, text_of-cons}

-- ---- bytes

abbrev NoSlash : ℕ → Type 0
NoSlash b = is_slash b ≡ false

-- nothing comes before nothing
never_less : (xs : List ℕ) → slice_cmp nat_cmp xs [] ≡ Less → ⊥
never_less [] less = true≢false (sym (ap is_lt less))
never_less (x ∷ xs) less = true≢false (sym (ap is_lt less))

less_past : (x y : ℕ) (r : Ordering) → y ≡ x → ordering_then (nat_cmp x y) r ≡ Less → r ≡ Less
less_past x y r same less = sym (ap (λ o. ordering_then o r) (ap (nat_cmp x) same ∙ tied_itself nat_cmp_total x)) ∙ less

less_within : (x y : ℕ) (r : Ordering) → ordering_then (nat_cmp x y) r ≡ Less → x ≤ y
less_within x y r less = first_within x y r (ap is_gt less)

-- what follows a name in a text: nothing, or a slash first
abbrev Ends : List ℕ → Type 0
Ends [] = Unit {0}
Ends (b ∷ rest) = b ≡ 47

-- the text goes on in the child
record IsIn (k n rest : List ℕ) : Type 0 where
  name : k ≡ n
  more : is_nil rest ≡ false

within_child : (n k t u : List ℕ) → All NoSlash n → All NoSlash k → Ends u → is_gt (slice_cmp nat_cmp (n ++ 47 ∷ t) (k ++ u)) ≡ false
    → slice_cmp nat_cmp (k ++ u) (n ++ 48 ∷ []) ≡ Less → IsIn k n u
within_child [] [] t [] no_n no_k ends low high = absurd (true≢false low)
within_child [] [] t (b ∷ u) no_n no_k ends low high = record { name = refl; more = refl }
within_child [] (y ∷ k) t u no_n no_k ends low high =
    let plain : (y == 47) ≡ false = All-head NoSlash y k no_k in
    let one = first_within 47 y (slice_cmp nat_cmp t (k ++ u)) low in
    let two = less_within y 48 (slice_cmp nat_cmp (k ++ u) []) high in
    let same : 48 ≡ y = grind (arith, nat_tests, plain, one, two) in
    absurd (never_less (k ++ u) (less_past y 48 (slice_cmp nat_cmp (k ++ u) []) same high))
within_child (x ∷ n) [] t [] no_n no_k ends low high = absurd (true≢false low)
within_child (x ∷ n) [] t (b ∷ u) no_n no_k ends low high =
    let plain : (x == 47) ≡ false = All-head NoSlash x n no_n in
    let one = first_within x b (slice_cmp nat_cmp (n ++ 47 ∷ t) u) low in
    let two = less_within b x (slice_cmp nat_cmp u (n ++ 48 ∷ [])) high in
    let slash : (x == 47) ≡ true = grind (arith, nat_tests, one, two, ends) in
    absurd (true≢false (sym slash ∙ plain))
within_child (x ∷ n) (y ∷ k) t u no_n no_k ends low high =
    let one = first_within x y (slice_cmp nat_cmp (n ++ 47 ∷ t) (k ++ u)) low in
    let two = less_within y x (slice_cmp nat_cmp (k ++ u) (n ++ 48 ∷ [])) high in
    let same : y ≡ x = omega (arith, one, two) in
    let rest = within_child n k t u (All-tail NoSlash x n no_n) (All-tail NoSlash y k no_k) ends
    (past_equal x y (slice_cmp nat_cmp (n ++ 47 ∷ t) (k ++ u)) same low)
    (less_past y x (slice_cmp nat_cmp (k ++ u) (n ++ 48 ∷ [])) (sym same) high) in
    record { name = ap (λ b. b ∷ k) same ∙ ap (λ l. x ∷ l) rest.name; more = rest.more }

-- ---- names

ends-text : (ns : List (List ℕ)) (folder : Bool) → Ends (text_of ns folder)
ends-text [] true = refl
ends-text [] false = tt
ends-text (n ∷ ns) folder = refl

-- a name and what is behind it lead to the child with the name, a folder, where something is behind
leads_into : (k : List ℕ) (ks : List (List ℕ)) (b : Bool) → is_nil (text_of ks b) ≡ false → child_from [] (k ∷ ks) b ≡ Some (record { name = k; folder = true })
leads_into k [] true more = refl
leads_into k [] false more = absurd (true≢false more)
leads_into k (next ∷ ks) b more = refl

strip : (m : List ℕ) (ns ks : List (List ℕ)) (a b : Bool) → slice_cmp nat_cmp (text_of (m ∷ ns) a) (text_of (m ∷ ks) b) ≡ slice_cmp nat_cmp (text_of ns a) (text_of ks b)
strip m ns ks a b =
    ap (λ t. slice_cmp nat_cmp t (text_of (m ∷ ks) b)) (text_of-cons m ns a)
    ∙ ap (slice_cmp nat_cmp (47 ∷ (m ++ text_of ns a))) (text_of-cons m ks b)
    ∙ cmp-front (47 ∷ m) (text_of ns a) (text_of ks b)

-- the names in the folder and behind it, the name past the child's
abbrev past_names : List (List ℕ) → List (List ℕ) → List (List ℕ)
past_names ms ns = ms ++ (get_or ns (length ms) [] ++ 48 ∷ []) ∷ []

first_text : (n : List ℕ) (ns : List (List ℕ)) (folder : Bool) → text_of (n ∷ ns) folder ≡ 47 ∷ (n ++ text_of ns folder)
first_text n ns folder = text_of-cons n ns folder

between_names : (ms ns ks : List (List ℕ)) (a b : Bool) → is_inside ms ns ≡ true → is_inside ms ks ≡ true → length ms + 1 < length ns
    → list_all is_name ns ≡ true → list_all is_name ks ≡ true
    → is_gt (slice_cmp nat_cmp (text_of ns a) (text_of ks b)) ≡ false
    → slice_cmp nat_cmp (text_of ks b) (text_of (past_names ms ns) false) ≡ Less
    → child_from ms ks b ≡ child_from ms ns a
between_names [] [] ks a b inside other deep all_n all_k low high = absurd (false≢true inside)
between_names [] (n ∷ []) ks a b inside other deep all_n all_k low high = absurd (omega (arith, deep))
between_names [] (n ∷ (m ∷ ns)) [] a b inside other deep all_n all_k low high = absurd (false≢true other)
between_names [] (n ∷ (m ∷ ns)) (k ∷ ks) a b inside other deep all_n all_k low high =
    let t = m ++ text_of ns a in
    let named_n = (and_parts (is_name n) (list_all is_name (m ∷ ns)) all_n).0 in
    let named_k = (and_parts (is_name k) (list_all is_name ks) all_k).0 in
    let here : text_of (n ∷ (m ∷ ns)) a ≡ 47 ∷ (n ++ 47 ∷ t) = first_text n (m ∷ ns) a ∙ ap (λ l. 47 ∷ (n ++ l)) (first_text m ns a) in
    let there = first_text k ks b in
    let past : text_of ((n ++ 48 ∷ []) ∷ []) false ≡ 47 ∷ (n ++ 48 ∷ []) = first_text (n ++ 48 ∷ []) [] false ∙ ap (λ l. 47 ∷ l) (append-nil (n ++ 48 ∷ [])) in
    let one : is_gt (slice_cmp nat_cmp (n ++ 47 ∷ t) (k ++ text_of ks b)) ≡ false =
    sym (ap is_gt (ap (λ l. slice_cmp nat_cmp l (text_of (k ∷ ks) b)) here ∙ ap (slice_cmp nat_cmp (47 ∷ (n ++ 47 ∷ t))) there)) ∙ low in
    let two : slice_cmp nat_cmp (k ++ text_of ks b) (n ++ 48 ∷ []) ≡ Less =
    sym (ap (λ l. slice_cmp nat_cmp l (text_of ((n ++ 48 ∷ []) ∷ []) false)) there ∙ ap (slice_cmp nat_cmp (47 ∷ (k ++ text_of ks b))) past) ∙ high in
    let is = within_child n k t (text_of ks b) (name_without_slash n named_n) (name_without_slash k named_k) (ends-text ks b) one two in
    leads_into k ks b is.more ∙ ap (λ l. Some (record { name = l; folder = true })) is.name
between_names (m ∷ ms) [] ks a b inside other deep all_n all_k low high = absurd (false≢true inside)
between_names (m ∷ ms) (n ∷ ns) [] a b inside other deep all_n all_k low high = absurd (false≢true other)
between_names (m ∷ ms) (n ∷ ns) (k ∷ ks) a b inside other deep all_n all_k low high =
    let one = and_parts (bytes_eq m n) (is_inside ms ns) inside in
    let two = and_parts (bytes_eq m k) (is_inside ms ks) other in
    let same_n : m ≡ n = (bytes_eq-Decides m n).0 one.0 in
    let same_k : m ≡ k = (bytes_eq-Decides m k).0 two.0 in
    let rest = between_names ms ns ks a b one.1 two.1 (omega (arith, deep))
    (and_parts (is_name n) (list_all is_name ns) all_n).1 (and_parts (is_name k) (list_all is_name ks) all_k).1
    (sym (ap is_gt (strip m ns ks a b)) ∙ ap (λ l. is_gt (slice_cmp nat_cmp (text_of (l ∷ ns) a) (text_of (m ∷ ks) b))) same_n
    ∙ ap (λ l. is_gt (slice_cmp nat_cmp (text_of (n ∷ ns) a) (text_of (l ∷ ks) b))) same_k ∙ low)
    (sym (strip m ks (past_names ms ns) b false) ∙ ap (λ l. slice_cmp nat_cmp (text_of (l ∷ ks) b) (text_of (m ∷ past_names ms ns) false)) same_k ∙ high) in
    cond-true (bytes_eq m k) _ _ two.0 ∙ rest ∙ sym (cond-true (bytes_eq m n) _ _ one.0)

-- ---- paths

text_less : (q r : Path) → is_path q ≡ true → is_path r ≡ true → path_cmp q r ≡ Less → slice_cmp nat_cmp (plain_text q) (plain_text r) ≡ Less
text_less q r named_q named_r less = by (slice_cmp nat_cmp (plain_text q) (plain_text r)) refl
  where
    by : (o : Ordering) → slice_cmp nat_cmp (plain_text q) (plain_text r) ≡ o → o ≡ Less
    by Less is = refl
    by Equal is =
        let text : plain_text q ≡ plain_text r = (bytes_eq-Decides (plain_text q) (plain_text r)).0 (texts_ties (plain_text q) (plain_text r) ∙ ap is_eq is) in
        let read : Ok q ≡ Ok r = sym (plain_reading-plain_text q named_q) ∙ ap plain_reading text ∙ plain_reading-plain_text r named_r in
        let same : q ≡ r = cc in
        absurd (true≢false (sym (ap is_lt (ap (path_cmp q) same ∙ less)) ∙ ap is_lt (tied_itself path_cmp_total q)))
    by Greater is =
        let first = then_within (slice_cmp nat_cmp (plain_text q) (plain_text r)) _ less in
        absurd (true≢false (sym (ap is_gt is) ∙ first))

named_all : (p : Path) → is_path p ≡ true → list_all is_name p.names ≡ true
named_all p is = (and_parts (list_all is_name p.names) _ (and_parts _ _ is).0).0

-- what comes between a path and the one past its child leads to the same child
pub same-between : (f p q past : Path) → is_path p ≡ true → is_path q ≡ true → is_below f p ≡ true → is_below f q ≡ true → IsPastChild f p past
    → path_cmp p q ≡ Less → path_cmp q past ≡ Less → child_towards f q ≡ child_towards f p
same-between f p q past named_p named_q below_p below_q is low high =
    let one = and_parts f.folder (is_inside f.names p.names) below_p in
    let two = and_parts f.folder (is_inside f.names q.names) below_q in
    let less = text_less q past named_q is.named high in
    between_names f.names p.names q.names p.folder q.folder one.1 two.1 is.deep (named_all p named_p) (named_all q named_q)
    (then_within (slice_cmp nat_cmp (plain_text p) (plain_text q)) _ low)
    (ap (λ (r : Path). slice_cmp nat_cmp (plain_text q) (plain_text r)) (sym (is.at [])) ∙ less)

-- ---- the path past a child

before_past : (ms ns : List (List ℕ)) (a : Bool) → is_inside ms ns ≡ true → length ms + 1 < length ns
    → slice_cmp nat_cmp (text_of ns a) (text_of (past_names ms ns) false) ≡ Less
before_past [] [] a inside deep = absurd (false≢true inside)
before_past [] (n ∷ []) a inside deep = absurd (omega (arith, deep))
before_past [] (n ∷ (m ∷ ns)) a inside deep =
    let t = m ++ text_of ns a in
    let here : text_of (n ∷ (m ∷ ns)) a ≡ 47 ∷ (n ++ 47 ∷ t) = first_text n (m ∷ ns) a ∙ ap (λ l. 47 ∷ (n ++ l)) (first_text m ns a) in
    let past : text_of ((n ++ 48 ∷ []) ∷ []) false ≡ 47 ∷ (n ++ 48 ∷ []) = first_text (n ++ 48 ∷ []) [] false ∙ ap (λ l. 47 ∷ l) (append-nil (n ++ 48 ∷ [])) in
    ap (λ l. slice_cmp nat_cmp l (text_of ((n ++ 48 ∷ []) ∷ []) false)) here ∙ ap (slice_cmp nat_cmp (47 ∷ (n ++ 47 ∷ t))) past
    ∙ cmp-front (47 ∷ n) (47 ∷ t) (48 ∷ [])
before_past (m ∷ ms) [] a inside deep = absurd (false≢true inside)
before_past (m ∷ ms) (n ∷ ns) a inside deep =
    let parts = and_parts (bytes_eq m n) (is_inside ms ns) inside in
    let same : m ≡ n = (bytes_eq-Decides m n).0 parts.0 in
    ap (λ l. slice_cmp nat_cmp (text_of (l ∷ ns) a) (text_of (m ∷ past_names ms ns) false)) (sym same)
    ∙ strip m ns (past_names ms ns) a false ∙ before_past ms ns a parts.1 (omega (arith, deep))

then_less : (a b : Ordering) → a ≡ Less → ordering_then a b ≡ Less
then_less Less b less = refl
then_less Equal b less = absurd (true≢false (sym (ap is_lt less)))
then_less Greater b less = absurd (true≢false (sym (ap is_lt less)))

-- it comes behind the path
pub past-behind : (f p past : Path) → is_below f p ≡ true → IsPastChild f p past → path_cmp p past ≡ Less
past-behind f p past below is =
    then_less (slice_cmp nat_cmp (plain_text p) (plain_text past)) _
    (ap (λ (r : Path). slice_cmp nat_cmp (plain_text p) (plain_text r)) (is.at [])
    ∙ before_past f.names p.names p.folder (and_parts f.folder (is_inside f.names p.names) below).1 is.deep)

inside_more : (ms : List (List ℕ)) (n : List ℕ) → is_inside ms (ms ++ n ∷ []) ≡ true
inside_more [] n = refl
inside_more (m ∷ ms) n = and_from (bytes_eq m m) (is_inside ms (ms ++ n ∷ [])) ((bytes_eq-Decides m m).1 refl) (inside_more ms n)

-- and is below the folder
pub past-below : (f p past : Path) → f.folder ≡ true → IsPastChild f p past → is_below f past ≡ true
past-below f p past folder is =
    and_from f.folder (is_inside f.names past.names) folder
    (ap (λ (q : Path). is_inside f.names q.names) (is.at []) ∙ inside_more f.names (get_or p.names (length f.names) [] ++ 48 ∷ []))

-- a path has at most 32 names
pub path-short : (p : Path) → is_path p ≡ true → length p.names ≤ 32
path-short p is =
    let few = (and_parts (list_all is_name p.names) _ (and_parts _ _ is).0).1 in
    grind (arith, nat_tests, few)

-- a name that was read is the text
pub name-read : (b : Bool) (text name : List ℕ) (read : Option (List ℕ)) → read ≡ cond b (Some text) None → read ≡ Some name → name ≡ text
name-read true text name read is found = let same : Some text ≡ Some name = sym is ∙ found in cc
name-read false text name read is found = let none : None ≡ Some name = sym is ∙ found in absurd (cc)

-- from a path on that is behind another, all is behind it
pub started-past : (p past q : Path) → path_cmp p past ≡ Less → is_le (path_cmp past q) ≡ true → path_cmp p q ≡ Less
started-past p past q low started = by (path_cmp past q) refl started
  where
    by : (r : Ordering) → path_cmp past q ≡ r → is_le r ≡ true → path_cmp p q ≡ Less
    by Less is started = path_cmp_total.trans p past q low is
    by Equal is started = ap (path_cmp p) (sym (tied_same past q is)) ∙ low
    by Greater is started = absurd (true≢false (sym started))

-- what isn't from it on comes before it
pub not-started : (past q : Path) → is_le (path_cmp past q) ≡ false → path_cmp q past ≡ Less
not-started past q out = by (path_cmp past q) refl out
  where
    by : (r : Ordering) → path_cmp past q ≡ r → is_le r ≡ false → path_cmp q past ≡ Less
    by Less is out = absurd (true≢false out)
    by Equal is out = absurd (true≢false out)
    by Greater is out = turned_less past q is
