-- How many children a folder has.
use Rattle.std.proofs.Common.{◌≡◌, ℕ, ◌+◌, ◌<◌, Bool, true, false, not, ◌||◌, cond, List, [], ◌∷◌, ◌++◌, length, take, get_or, fold, filter_map, Option, Some, None, refl, sym, ap, ◌∙◌}
use Rattle.std.specs.List.{list_any, cons_option}
use Rattle.std.specs.Ordering.{eq_by_cmp}
use Rattle.std.specs.BTreeSet.{insert_key}
use Rattle.std.proofs.lemmas.List.{take_more, map-append}
use Rattle.std.proofs.lemmas.List.Sums.{fold-append}
use Rattle.std.proofs.lemmas.List.Elements.{filter_map-append}
use Rattle.rs_path.specs.declared.child.Child.{Child}
use Rattle.rs_path.specs.Paths.{Path}
use Rattle.rs_path.specs.Children.{child_cmp, child_towards, same_child}
use Rattle.rs_path.specs.ChildOrder.{child_cmp_total, child_ties}
use Rattle.rs_rules.specs.declared.placed.Placed.{Placed}
use Rattle.rs_rules.specs.Contents.{paths_in}
use Rattle.rs_rules.specs.Listings.{children}
use Rattle.rs_plain.specs.Steps.{is_to, is_seen, is_fresh}
use Rattle.rs_plain.proofs.CountLemmas.{sorted_fold, sorted_none, length_insert, any_fold}

-- the children that some paths lead to, in the order of the paths
abbrev found : Path → List Placed → List Child
found f ds = filter_map (child_towards f) (paths_in ds)

or_none : (b : Bool) → (b || false) ≡ b
or_none true = refl
or_none false = refl

-- a document leads to the child just where it is seen
seen_found : (f : Path) (ds : List Placed) (c : Child) → list_any (eq_by_cmp child_cmp c) (found f ds) ≡ is_seen f ds c
seen_found f [] c = refl
seen_found f (d ∷ ds) c = by (child_towards f d.path) (seen_found f ds c)
  where
    by : (o : Option Child) → list_any (eq_by_cmp child_cmp c) (found f ds) ≡ is_seen f ds c
        → list_any (eq_by_cmp child_cmp c) (cons_option o (found f ds)) ≡ (is_to c o || is_seen f ds c)
    by None rest = rest
    by (Some x) rest = ap (λ b. b || list_any (eq_by_cmp child_cmp c) (found f ds)) (sym (child_ties c x)) ∙ ap (λ b. same_child c x || b) rest

any_children : (f : Path) (ds : List Placed) (c : Child) → list_any (eq_by_cmp child_cmp c) (children f (paths_in ds)) ≡ is_seen f ds c
any_children f ds c = any_fold child_cmp child_cmp_total c (found f ds) [] ∙ or_none _ ∙ seen_found f ds c

-- the paths of one document more
pub paths_at : (docs : List Placed) (i : ℕ) (d : Placed) → i < length docs
    → paths_in (take (i + 1) docs) ≡ paths_in (take i docs) ++ (get_or docs i d).path ∷ []
paths_at docs i d within =
    ap paths_in (take_more docs i d within) ∙ map-append (λ (e : Placed). e.path) (take i docs) (get_or docs i d ∷ [])

pub paths_more : (docs : List Placed) (i : ℕ) (d : Placed) → i < length docs → d ≡ get_or docs i d
    → paths_in (take (i + 1) docs) ≡ paths_in (take i docs) ++ d.path ∷ []
paths_more docs i d within is = paths_at docs i d within ∙ ap (λ (e : Placed). paths_in (take i docs) ++ e.path ∷ []) (sym is)

-- one path more
pub children_more : (f : Path) (ps : List Path) (p : Path)
    → children f (ps ++ p ∷ []) ≡ fold (insert_key child_cmp) (children f ps) (filter_map (child_towards f) (p ∷ []))
children_more f ps p =
    ap (fold (insert_key child_cmp) []) (filter_map-append (child_towards f) ps (p ∷ []))
    ∙ fold-append (insert_key child_cmp) [] (filter_map (child_towards f) ps) (filter_map (child_towards f) (p ∷ []))

pub length_more : (f : Path) (ds : List Placed) (p : Path)
    → length (children f (paths_in ds ++ p ∷ [])) ≡ cond (is_fresh f ds (child_towards f p)) (length (children f (paths_in ds)) + 1) (length (children f (paths_in ds)))
length_more f ds p = ap length (children_more f (paths_in ds) p) ∙ by (child_towards f p)
  where
    turned : (b : Bool) (n : ℕ) → cond b n (n + 1) ≡ cond (not b) (n + 1) n
    turned true n = refl
    turned false n = refl

    by : (o : Option Child)
        → length (fold (insert_key child_cmp) (children f (paths_in ds)) (cons_option o []))
        ≡ cond (is_fresh f ds o) (length (children f (paths_in ds)) + 1) (length (children f (paths_in ds)))
    by None = refl
    by (Some c) =
        length_insert child_cmp child_cmp_total c (children f (paths_in ds)) (sorted_fold child_cmp child_cmp_total (found f ds) [] (sorted_none child_cmp child_cmp_total))
        ∙ ap (λ b. cond b (length (children f (paths_in ds))) (length (children f (paths_in ds)) + 1)) (any_children f ds c)
        ∙ turned (is_seen f ds c) (length (children f (paths_in ds)))
