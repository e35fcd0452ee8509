-- A folder has children just where a document is below it.
use Rattle.std.proofs.Common.{◌≡◌, ℕ, Bool, true, false, not, ◌||◌, List, [], ◌∷◌, map, Option, Some, None, is_some, refl, sym, ap, ◌∙◌, ⊎_elim}
use Rattle.std.specs.List.{list_any}
use Rattle.std.proofs.lemmas.Bool.{cases_Bool, or_cases, or_left, or_right, true≢false}
use Rattle.rs_path.specs.declared.child.Child.{Child}
use Rattle.rs_path.specs.Paths.{Path, is_nil}
use Rattle.rs_path.specs.Below.{is_below}
use Rattle.slab.specs.Slab.{Slab}
use Rattle.rs_path.specs.Children.{same_child, child_at, child_towards}
use Rattle.rs_path.specs.ChildOrder.{same_child-Decides}
use Rattle.rs_rules.specs.declared.placed.Placed.{Placed}
use Rattle.rs_rules.specs.Documents.{doc_in, has_below}
use Rattle.rs_rules.specs.Contents.{Contents, paths_in}
use Rattle.rs_rules.specs.Listings.{children}
use Rattle.rs_rules.specs.Laws.{is_child, is_sorted}
use Rattle.rs_rules.specs.Sound.{are_documents}
use Rattle.rs_chain.specs.declared.node.Node.{Node}
use Rattle.rs_chain.specs.Nodes.{node_child, node_kids}
use Rattle.rs_chain.specs.Walks.{key_at, AreListed}
use Rattle.rs_chain.specs.Shown.{NodesShow}
use Rattle.rs_chain.proofs.ListedLemmas.{listed_kids}

pub child_some : (c : Child) (o : Option Child) → is_child c o ≡ true → is_some o ≡ true
child_some c None there = absurd (true≢false (sym there))
child_some c (Some d) there = refl

-- some path leads to the child
some_leads : (f : Path) (c : Child) (ds : List Placed) → ((p : Path) → is_some (child_towards f p) ≡ is_below f p)
    → list_any (λ p. is_child c (child_towards f p)) (paths_in ds) ≡ true → has_below f ds ≡ true
some_leads f c [] towards there = absurd (true≢false (sym there))
some_leads f c (d ∷ ds) towards there =
    ⊎_elim
    (λ here. or_left (is_below f d.path) (has_below f ds) (sym (towards d.path) ∙ child_some c (child_towards f d.path) here))
    (λ rest. or_right (is_below f d.path) (has_below f ds) (some_leads f c ds towards rest))
    (or_cases (is_child c (child_towards f d.path)) (list_any (λ p. is_child c (child_towards f p)) (paths_in ds)) there)

lead_of : (o : Option Child) → is_some o ≡ true → (c : Child) × (is_child c o ≡ true)
lead_of None there = absurd (true≢false (sym there))
lead_of (Some c) there = (c, (same_child-Decides c c).1 refl)

leads_some : (f : Path) (ds : List Placed) → ((p : Path) → is_some (child_towards f p) ≡ is_below f p) → has_below f ds ≡ true
    → (c : Child) × (list_any (λ p. is_child c (child_towards f p)) (paths_in ds) ≡ true)
leads_some f [] towards below = absurd (true≢false (sym below))
leads_some f (d ∷ ds) towards below =
    ⊎_elim
    (λ here.
    let it = lead_of (child_towards f d.path) (towards d.path ∙ here) in
    (it.0, or_left (is_child it.0 (child_towards f d.path)) (list_any (λ p. is_child it.0 (child_towards f p)) (paths_in ds)) it.1))
    (λ rest.
    let it = leads_some f ds towards rest in
    (it.0, or_right (is_child it.0 (child_towards f d.path)) (list_any (λ p. is_child it.0 (child_towards f p)) (paths_in ds)) it.1))
    (or_cases (is_below f d.path) (has_below f ds) below)

some_nil : (c : Child) (cs : List Child) → list_any (same_child c) cs ≡ true → is_nil cs ≡ false
some_nil c [] there = absurd (true≢false (sym there))
some_nil c (x ∷ xs) there = refl

-- children by the law of their members
pub below_children : (f : Path) (ds : List Placed) (cs : List Child) → ((p : Path) → is_some (child_towards f p) ≡ is_below f p)
    → ((c : Child) → list_any (same_child c) cs ≡ list_any (λ p. is_child c (child_towards f p)) (paths_in ds)) → has_below f ds ≡ not (is_nil cs)
below_children f ds cs towards members =
    ⊎_elim
    (λ below.
    let it = leads_some f ds towards below in
    below ∙ sym (ap not (some_nil it.0 cs (members it.0 ∙ it.1))))
    (λ clear. clear ∙ none cs members clear)
    (cases_Bool (has_below f ds))
  where
    none : (cs : List Child) → ((c : Child) → list_any (same_child c) cs ≡ list_any (λ p. is_child c (child_towards f p)) (paths_in ds)) → has_below f ds ≡ false → false ≡ not (is_nil cs)
    none [] members clear = refl
    none (x ∷ xs) members clear =
        absurd (true≢false (sym (some_leads f x ds towards (sym (members x) ∙ or_left (same_child x x) (list_any (same_child x) xs) ((same_child-Decides x x).1 refl))) ∙ clear))

map_nil : {X Y : Type 0} (of : X → Y) (xs : List X) → is_nil (map of xs) ≡ is_nil xs
map_nil of [] = refl
map_nil of (x ∷ xs) = refl

-- the folder with this key has children just where a document is below it
pub below_kids : (s : Slab Node) (root : ℕ) (w : Contents) (p : Path) (f : ℕ) → AreListed s root → NodesShow s root w → are_documents w.docs ≡ true → p.folder ≡ true → key_at s root p ≡ Some f
    → ((q : Path) → is_some (child_towards p q) ≡ is_below p q)
    → ((c : Child) → list_any (same_child c) (children p (paths_in w.docs)) ≡ list_any (λ q. is_child c (child_towards p q)) (paths_in w.docs))
    → is_sorted (children p (paths_in w.docs)) ≡ true
    → ((c : Child) → c.folder ≡ false → list_any (same_child c) (children p (paths_in w.docs)) ≡ is_some (doc_in (child_at p c) w.docs))
    → ((c : Child) → c.folder ≡ true → list_any (same_child c) (children p (paths_in w.docs)) ≡ has_below (child_at p c) w.docs)
    → has_below p w.docs ≡ not (is_nil (node_kids s f))
below_kids s root w p f listed shows plain folder here towards members sorted documents folders =
    below_children p w.docs (children p (paths_in w.docs)) towards members
    ∙ ap (λ l. not (is_nil l)) (sym (listed_kids s root w p f listed shows folder here plain sorted documents folders))
    ∙ ap not (map_nil (node_child s) (node_kids s f))
