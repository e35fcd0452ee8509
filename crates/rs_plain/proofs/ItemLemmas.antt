-- The items of children in their order.
use Rattle.std.proofs.Common.{◌≡◌, true, IsTrue, All, List, [], ◌∷◌, ◌++◌, map, ap, ◌∙◌}
use Rattle.std.specs.List.{AllByRecursion}
use Rattle.std.specs.List.Sorted.{IsStrictlySortedBy}
use Rattle.std.specs.declared.cmp.Ordering.TheVariants.{Less}
use Rattle.std.specs.Ordering.{is_lt}
use Rattle.std.proofs.lemmas.List.Elements.{All-nil, All-cons, All-head, All-tail}
use Rattle.rs_path.specs.declared.child.Child.{Child}
use Rattle.rs_path.specs.declared.entry.Entry.{Entry}
use Rattle.rs_path.specs.Names.{is_name}
use Rattle.rs_path.specs.Paths.{Path}
use Rattle.rs_path.specs.Items.{comes_before}
use Rattle.rs_path.specs.Children.{child_cmp}
use Rattle.rs_path.proofs.Cited.{slice_cmp-key_of}
use Rattle.rs_rules.specs.Contents.{Contents}
use Rattle.rs_rules.specs.Listings.{item_of}

abbrev pub Named : Child → Type 0
Named child = is_name child.name ≡ true

-- a property of all is one of the first behind some
behind : {X : Type 0} (P : X → Type 0) (xs ys : List X) (x : X) → All P (xs ++ x ∷ ys) → P x
behind P [] ys x all = All-head P x ys all
behind P (z ∷ xs) ys x all = behind P xs ys x (All-tail P z (xs ++ x ∷ ys) all)

behind_by : {X : Type 0} (P : X → Type 0) (xs ys : List X) (x : X) → AllByRecursion P (xs ++ x ∷ ys) → P x
behind_by P [] ys x all = all.0
behind_by P (z ∷ xs) ys x all = behind_by P xs ys x all.1

-- the item of a child comes behind those of the children before it
pub items_above : (w : Contents) (f : Path) (done rest : List Child) (x : Child) → IsStrictlySortedBy child_cmp (done ++ x ∷ rest)
    → All Named (done ++ x ∷ rest) → All (λ (e : Entry). IsTrue (comes_before e (item_of w f x))) (map (item_of w f) done)
unfolding IsStrictlySortedBy
items_above w f [] rest x sorted named = All-nil (λ (e : Entry). IsTrue (comes_before e (item_of w f x)))
items_above w f (k ∷ ks) rest x sorted named =
    let of_k : Named k = All-head Named k (ks ++ x ∷ rest) named in
    let others : All Named (ks ++ x ∷ rest) = All-tail Named k (ks ++ x ∷ rest) named in
    let less : child_cmp k x ≡ Less = behind_by (λ (y : Child). child_cmp k y ≡ Less) ks rest x sorted.0 in
    All-cons (λ (e : Entry). IsTrue (comes_before e (item_of w f x))) (item_of w f k) (map (item_of w f) ks)
    (ap is_lt (slice_cmp-key_of k x of_k (behind Named ks rest x others) ∙ less))
    (items_above w f ks rest x sorted.1 others)
