-- A way goes from node to node.
use Rattle.std.proofs.Common.{◌≡◌, ◌<◌, ◌≤◌, ℕ, ◌+◌, Bool, true, not, ◌||◌, List, [], ◌∷◌, length, get_or, drop, find, Option, Some, None, sym, ap, ◌∙◌, subst, inl, inr, ⊎_elim}
use Rattle.std.proofs.lemmas.List.{at_drop_all, get_or_read}
use Rattle.std.proofs.lemmas.Bool.{cases_Bool, cond-true, cond-false}
use Rattle.slab.specs.Slab.{Slab, get, ContainsKey}
use Rattle.rs_path.specs.declared.child.Child.{Child}
use Rattle.rs_path.specs.Paths.{Path, is_nil}
use Rattle.rs_path.specs.Children.{same_child}
use Rattle.rs_chain.specs.declared.node.Node.{Node}
use Rattle.rs_chain.specs.Nodes.{node_child, node_kids, node_parent}
use Rattle.rs_chain.specs.Rings.{In}
use Rattle.rs_chain.specs.Walks.{onwards, child_in, way, steps_of, key_at, step_at, front_at, AreListed}
use Rattle.rs_chain.proofs.InLemmas.{kid_parent}
use Rattle.rs_chain.proofs.LinkLemmas.{parent_live}
use Rattle.rs_chain.proofs.StepLemmas.{way_next, key_front}

-- what is found is in the list and passes
pub found_in : (test : ℕ → Bool) (ks : List ℕ) (k : ℕ) → find test ks ≡ Some k → In k ks × (test k ≡ true)
found_in test [] k found = absurd (cc)
found_in test (x ∷ xs) k found =
    ⊎_elim
    (λ hit.
    let same : Some x ≡ Some k = sym (cond-true (test x) (Some x) (find test xs) hit) ∙ found in
    let it : k ≡ x = cc in
    (inl it, subst (λ y. test y ≡ true) (sym it) hit))
    (λ clear.
    let rest = found_in test xs k (sym (cond-false (test x) (Some x) (find test xs) clear) ∙ found) in
    (inr rest.0, rest.1))
    (cases_Bool (test x))

-- the child that is found is one of the folder, and is there
pub child_in_parent : (s : Slab Node) (root f k : ℕ) (c : Child) → AreListed s root → child_in s f c ≡ Some k → node_parent s k ≡ Some f
child_in_parent s root f k c listed found = kid_parent listed f k (found_in (λ j. same_child c (node_child s j)) (node_kids s f) k found).0

pub child_in_live : (s : Slab Node) (root f k : ℕ) (c : Child) → AreListed s root → child_in s f c ≡ Some k → ContainsKey s k
child_in_live s root f k c listed found = parent_live s f k (child_in_parent s root f k c listed found)

-- one step of a way
pub way_none : (s : Slab Node) (at : ℕ) (c : Child) (cs : List Child) → child_in s at c ≡ None → way (child_in s) at (c ∷ cs) ≡ None
way_none s at c cs none = ap (λ o. onwards o (λ key. way (child_in s) key cs)) none

pub way_some : (s : Slab Node) (at k : ℕ) (c : Child) (cs : List Child) → child_in s at c ≡ Some k → way (child_in s) at (c ∷ cs) ≡ way (child_in s) k cs
way_some s at k c cs some = ap (λ o. onwards o (λ key. way (child_in s) key cs)) some

-- ---- the way goes on from a front

pub way_stops : (s : Slab Node) (at : ℕ) (p : Path) (depth : ℕ) → depth < length p.names → child_in s at (step_at p depth) ≡ None
    → way (child_in s) at (steps_of (drop depth p.names) p.folder) ≡ None
way_stops s at p depth within none =
    way_next s at p depth within ∙ ap (λ o. onwards o (λ k. way (child_in s) k (steps_of (drop (depth + 1) p.names) p.folder))) none

pub way_goes : (s : Slab Node) (at key : ℕ) (p : Path) (depth : ℕ) → depth < length p.names → child_in s at (step_at p depth) ≡ Some key
    → way (child_in s) at (steps_of (drop depth p.names) p.folder) ≡ way (child_in s) key (steps_of (drop (depth + 1) p.names) p.folder)
way_goes s at key p depth within some =
    way_next s at p depth within ∙ ap (λ o. onwards o (λ k. way (child_in s) k (steps_of (drop (depth + 1) p.names) p.folder))) some

pub way_done : (s : Slab Node) (at : ℕ) (names : List (List ℕ)) (b : Bool) (depth : ℕ) → length names ≤ depth → way (child_in s) at (steps_of (drop depth names) b) ≡ Some at
way_done s at names b depth all = at_drop_all (λ ns. way (child_in s) at (steps_of ns b)) names depth all

pub front_goes : (s : Slab Node) (root at key : ℕ) (p : Path) (depth : ℕ) → depth < length p.names → key_at s root (front_at p depth) ≡ Some at → child_in s at (step_at p depth) ≡ Some key
    → key_at s root (front_at p (depth + 1)) ≡ Some key
front_goes s root at key p depth within here there =
    key_front s root p depth within ∙ ap (λ o. onwards o (λ f. child_in s f (step_at p depth))) here ∙ there

-- ---- a step as the code tells it

pub step_is : (p : Path) (depth : ℕ) (names : List (List ℕ)) (name : List ℕ) (on : Bool) → names ≡ p.names → depth < length names → name ≡ get_or names depth name
    → on ≡ (p.folder || not (is_nil (drop (depth + 1) p.names))) → record { name = name; folder = on } ≡ step_at p depth
step_is p depth names name on same within is leads =
    let Make : List ℕ → Bool → Child = λ n b. record { name = n; folder = b } in
    ap (λ n. Make n on) (get_or_read names depth name within is [] ∙ ap (λ ns. get_or ns depth []) same) ∙ ap (Make (get_or p.names depth [])) leads
