-- The items of a folder's kids are the items that the contents show there.
use Rattle.std.proofs.Common.{◌≡◌, ◌<◌, ℕ, zero, suc, Bool, true, false, not, ◌||◌, ◌&&◌, cond, IsTrue, All, List, [], ◌∷◌, ◌++◌, map, length, take, get_or, find, Option, Some, None, is_some, arith, refl, sym, ap, ◌∙◌, subst, inl, inr, ⊎_elim}
use Rattle.std.specs.List.{AllByRecursion}
use Rattle.std.specs.Option.{option_map, option_map_or}
use Rattle.std.specs.declared.cmp.Ordering.TheVariants.{Less, Equal}
use Rattle.std.specs.Ordering.{is_lt}
use Rattle.std.specs.Cmp.{tied_itself}
use Rattle.std.proofs.lemmas.Bool.{cases_Bool, cond-true, cond-false, true≢false}
use Rattle.std.proofs.lemmas.List.{get_or-take}
use Rattle.std.proofs.lemmas.List.Elements.{All-from_recursion}
use Rattle.slab.specs.Slab.{Slab, get, ContainsKey}
use Rattle.rs_path.specs.declared.child.Child.{Child}
use Rattle.rs_path.specs.declared.entry.Entry.{Entry}
use Rattle.rs_path.specs.Names.{is_name}
use Rattle.rs_path.specs.Paths.{Path, is_nil}
use Rattle.rs_path.specs.Items.{comes_before, is_item}
use Rattle.rs_path.specs.Children.{child_cmp, same_child, child_at}
use Rattle.rs_path.specs.ChildOrder.{child_cmp_total}
use Rattle.rs_path.proofs.Cited.{slice_cmp-key_of}
use Rattle.rs_rules.specs.declared.doc.Doc.{Doc}
use Rattle.rs_rules.specs.Documents.{doc_in}
use Rattle.rs_rules.specs.Contents.{Contents, paths_in}
use Rattle.rs_rules.specs.Listings.{children, item_at, item_of, items_in}
use Rattle.rs_rules.specs.Laws.{is_sorted}
use Rattle.rs_chain.specs.declared.node.Node.{Node}
use Rattle.rs_chain.specs.Nodes.{node_child, node_doc, node_kids, node_number}
use Rattle.rs_chain.specs.Rings.{In}
use Rattle.rs_chain.specs.Walks.{onwards, child_in, key_at, AreListed}
use Rattle.rs_chain.specs.Shown.{NodesShow}
use Rattle.rs_chain.specs.NodeItems.{node_item, kid_items}
use Rattle.rs_chain.proofs.InLemmas.{kid_parent}
use Rattle.rs_chain.proofs.LinkLemmas.{parent_live}
use Rattle.rs_chain.proofs.PlaceLemmas.{found_at, less_later}
use Rattle.rs_chain.proofs.StepLemmas.{key_child, not_nil}

-- ---- order

abbrev pub NamedAt : Slab Node → ℕ → Type 0
NamedAt s k = is_name (node_child s k).name ≡ true

-- the items of kids before another come before its item
pub items_above : (s : Slab Node) (ks : List ℕ) (x : ℕ) → ((j d : ℕ) → j < length ks → child_cmp (node_child s (get_or ks j d)) (node_child s x) ≡ Less) → AllByRecursion (NamedAt s) ks → NamedAt s x
    → AllByRecursion (λ (e : Entry). IsTrue (comes_before e (node_item s x))) (map (node_item s) ks)
items_above s [] x less named name = tt
items_above s (k ∷ ks) x less named name = (
  ap is_lt (slice_cmp-key_of (node_child s k) (node_child s x) named.0 name ∙ less 0 0 (omega arith)),
  items_above s ks x (λ j d within. less (suc j) d (omega (arith, within))) named.1 name,
)

-- ---- a folder's item

item_folder : (v : ℕ) (c : Child) (o : Option Doc) → is_some o ≡ not c.folder → is_item (item_at v c o) ≡ true
item_folder v c None same = by c.folder
  where
    by : (b : Bool) → (not b || (true && true)) ≡ true
    by true = refl
    by false = refl
item_folder v c (Some doc) same = by c.folder same
  where
    by : (b : Bool) → true ≡ not b → (not b || (false && false)) ≡ true
    by true same = absurd (true≢false same)
    by false same = refl

pub node_plain : (s : Slab Node) (root k : ℕ) → AreListed s root → ContainsKey s k → is_item (node_item s k) ≡ true
node_plain s root k listed live = item_folder (node_number s k) (node_child s k) (node_doc s k) (listed.contents k live)

-- ---- what the contents show

in_index : (k : ℕ) (ks : List ℕ) → In k ks → (i : ℕ) × (i < length ks) × (get_or ks i 0 ≡ k)
in_index k [] there = absurd there
in_index k (x ∷ xs) there =
    ⊎_elim
    (λ here. (0, omega arith, sym here))
    (λ rest. let later = in_index k xs rest in (suc later.0, omega (arith, later.1), later.2))
    there

-- a kid is found by its own name
pub kid_itself : (s : Slab Node) (root f k : ℕ) → AreListed s root → In k (node_kids s f) → child_in s f (node_child s k) ≡ Some k
kid_itself s root f k listed there =
    let at = in_index k (node_kids s f) there in
    let tied : child_cmp (node_child s (get_or (node_kids s f) at.0 0)) (node_child s k) ≡ Equal =
    ap (λ j. child_cmp (node_child s j) (node_child s k)) at.2 ∙ tied_itself child_cmp_total (node_child s k) in
    found_at (node_child s) (node_child s k) (node_kids s f) at.0 0 (listed.sorted f) at.1 tied ∙ ap (λ j. Some j) at.2

none_is : {X : Type 0} (o : Option X) → is_some o ≡ false → o ≡ None
none_is None none = refl
none_is (Some x) none = absurd (true≢false none)

module _ (s : Slab Node) (root : ℕ) (w : Contents) (p : Path) (f : ℕ) (listed : AreListed s root) (shows : NodesShow s root w) (folder : p.folder ≡ true) (here : key_at s root p ≡ Some f) where
  key_kid : (k : ℕ) → In k (node_kids s f) → key_at s root (child_at p (node_child s k)) ≡ Some k
  key_kid k there = key_child s root p (node_child s k) folder ∙ ap (λ o. onwards o (λ g. child_in s g (node_child s k))) here ∙ kid_itself s root f k listed there

  placed_kid : (c : Child) → (c.folder || not (is_nil (child_at p c).names)) ≡ true
  placed_kid c = ap (λ b. c.folder || not b) (not_nil p.names c.name) ∙ or_true c.folder
    where
      or_true : (b : Bool) → (b || true) ≡ true
      or_true true = refl
      or_true false = refl

  doc_kid : (k : ℕ) → In k (node_kids s f) → (b : Bool) → (node_child s k).folder ≡ b → cond b None (doc_in (child_at p (node_child s k)) w.docs) ≡ node_doc s k
  doc_kid k there true is =
      sym (none_is (node_doc s k) (listed.contents k (parent_live s f k (kid_parent listed f k there)) ∙ ap not is))
  doc_kid k there false is = shows.documents (child_at p (node_child s k)) ∙ ap (λ o. onwards o (node_doc s)) (key_kid k there)

  item_kid : (k : ℕ) → In k (node_kids s f) → item_of w p (node_child s k) ≡ node_item s k
  item_kid k there =
      let version : w.version (child_at p (node_child s k)) ≡ node_number s k =
      shows.versions (child_at p (node_child s k)) (placed_kid (node_child s k)) ∙ ap (λ o. option_map_or (node_number s) o 0) (key_kid k there) in
      ap (λ v. item_at v (node_child s k) (cond (node_child s k).folder None (doc_in (child_at p (node_child s k)) w.docs))) version
      ∙ ap (item_at (node_number s k) (node_child s k)) (doc_kid k there (node_child s k).folder refl)

  each_kid : (ks : List ℕ) → ((k : ℕ) → In k ks → In k (node_kids s f)) → map (item_of w p) (map (node_child s) ks) ≡ map (node_item s) ks
  each_kid [] all = refl
  each_kid (k ∷ ks) all =
      ap (λ e. e ∷ map (item_of w p) (map (node_child s) ks)) (item_kid k (all k (inl refl)))
      ∙ ap (λ es. node_item s k ∷ es) (each_kid ks (λ j there. all j (inr there)))

  pub items_kids : map (node_child s) (node_kids s f) ≡ children p (paths_in w.docs) → kid_items s f ≡ items_in w p
  items_kids same = sym (each_kid (node_kids s f) (λ k there. there)) ∙ ap (map (item_of w p)) same

-- ---- the kids so far

get_in : (ks : List ℕ) (i : ℕ) → i < length ks → In (get_or ks i 0) ks
get_in [] i within = absurd (omega arith)
get_in (k ∷ ks) zero within = inl refl
get_in (k ∷ ks) (suc i) within = inr (get_in ks i (omega arith))

pub kid_live : (s : Slab Node) (root f : ℕ) (ks : List ℕ) (i : ℕ) → AreListed s root → node_kids s f ≡ ks → i < length ks → ContainsKey s (get_or ks i 0)
kid_live s root f ks i listed same within =
    parent_live s f (get_or ks i 0) (kid_parent listed f (get_or ks i 0) (subst (λ l. In (get_or ks i 0) l) (sym same) (get_in ks i within)))

pub named_more : (s : Slab Node) (ks : List ℕ) (k : ℕ) → AllByRecursion (NamedAt s) ks → NamedAt s k → AllByRecursion (NamedAt s) (ks ++ k ∷ [])
named_more s [] k all name = (name, tt)
named_more s (x ∷ xs) k all name = (all.0, named_more s xs k all.1 name)

length_front : (ks : List ℕ) (i j : ℕ) → j < length (take i ks) → j < i
length_front ks zero j within = within
length_front [] (suc i) j within = absurd (omega arith)
length_front (k ∷ ks) (suc i) zero within = omega arith
length_front (k ∷ ks) (suc i) (suc j) within = let rest : j < i = length_front ks i j (omega arith) in omega (arith, rest)

get_or_any : (ks : List ℕ) (j d : ℕ) → j < length ks → get_or ks j d ≡ get_or ks j 0
get_or_any [] j d within = absurd (omega arith)
get_or_any (k ∷ ks) zero d within = refl
get_or_any (k ∷ ks) (suc j) d within = get_or_any ks j d (omega arith)

pub above_all : (s : Slab Node) (ks : List ℕ) (i : ℕ) → is_sorted (map (node_child s) ks) ≡ true → i < length ks → AllByRecursion (NamedAt s) (take i ks) → NamedAt s (get_or ks i 0)
    → All (λ (e : Entry). IsTrue (comes_before e (node_item s (get_or ks i 0)))) (map (node_item s) (take i ks))
above_all s ks i sorted within named name =
    All-from_recursion (λ (e : Entry). IsTrue (comes_before e (node_item s (get_or ks i 0)))) (map (node_item s) (take i ks))
    (items_above s (take i ks) (get_or ks i 0)
    (λ j d inner.
    let front : j < i = length_front ks i j inner in
    ap (λ k. child_cmp (node_child s k) (node_child s (get_or ks i 0))) (get_or-take i ks j d front ∙ get_or_any ks j d (omega (arith, front, within))) ∙ less_later (node_child s) ks j i 0 sorted front within)
    named name)
