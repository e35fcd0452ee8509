-- The kids of a folder are its children among the documents.
use Rattle.std.proofs.Common.{◌≡◌, ℕ, Bool, true, false, not, ◌||◌, ◌&&◌, cond, List, [], ◌∷◌, ◌++◌, map, find, Option, Some, None, is_some, refl, sym, ap, ◌∙◌, subst, inl, inr, ⊎_elim}
use Rattle.std.specs.List.{list_any}
use Rattle.std.proofs.lemmas.Bool.{cases_Bool, cond-true, cond-false, and_right, or_left, or_parts, true≢false}
use Rattle.slab.specs.Slab.{Slab, get, ContainsKey}
use Rattle.rs_path.specs.declared.child.Child.{Child}
use Rattle.rs_path.specs.Paths.{Path, is_nil, is_root}
use Rattle.rs_path.specs.Children.{same_child, child_at}
use Rattle.rs_path.specs.ChildOrder.{same_child-Decides}
use Rattle.rs_rules.specs.declared.doc.Doc.{Doc}
use Rattle.rs_rules.specs.declared.placed.Placed.{Placed}
use Rattle.rs_rules.specs.Documents.{doc_in, has_below}
use Rattle.rs_rules.specs.Versions.{is_there}
use Rattle.rs_rules.specs.Contents.{Contents, paths_in}
use Rattle.rs_rules.specs.Listings.{children}
use Rattle.rs_rules.specs.Laws.{is_sorted}
use Rattle.rs_rules.specs.Sound.{are_documents}
use Rattle.rs_chain.specs.declared.node.Node.{Node}
use Rattle.rs_chain.specs.Nodes.{node_child, node_doc, node_kids}
use Rattle.rs_chain.specs.Walks.{onwards, child_in, way, steps_of, key_at, AreListed}
use Rattle.rs_chain.specs.Shown.{NodesShow}
use Rattle.rs_chain.proofs.SortedLemmas.{sorted_equal}
use Rattle.rs_chain.proofs.StepLemmas.{not_nil, key_child}
use Rattle.rs_chain.proofs.WalkLemmas.{found_in, child_in_live}

-- ---- which children there are

any_found : (test : ℕ → Bool) (ks : List ℕ) → is_some (find test ks) ≡ list_any test ks
any_found test [] = refl
any_found test (k ∷ ks) = by (test k) (any_found test ks)
  where
    by : (b : Bool) → is_some (find test ks) ≡ list_any test ks → is_some (cond b (Some k) (find test ks)) ≡ (b || list_any test ks)
    by true rest = refl
    by false rest = rest

any_map : (at : ℕ → Child) (c : Child) (ks : List ℕ) → list_any (same_child c) (map at ks) ≡ list_any (λ k. same_child c (at k)) ks
any_map at c [] = refl
any_map at c (k ∷ ks) = ap (λ b. same_child c (at k) || b) (any_map at c ks)

pub any_kid : (s : Slab Node) (f : ℕ) (c : Child) → list_any (same_child c) (map (node_child s) (node_kids s f)) ≡ is_some (child_in s f c)
any_kid s f c = any_map (node_child s) c (node_kids s f) ∙ sym (any_found (λ k. same_child c (node_child s k)) (node_kids s f))

module _ (s : Slab Node) (root : ℕ) (w : Contents) (p : Path) (f : ℕ) (listed : AreListed s root) (shows : NodesShow s root w) (folder : p.folder ≡ true) (here : key_at s root p ≡ Some f) where
  pub to_child : (c : Child) → key_at s root (child_at p c) ≡ child_in s f c
  to_child c = key_child s root p c folder ∙ ap (λ o. onwards o (λ g. child_in s g c)) here

  -- a document's node has a document
  pub doc_there : (c : Child) → c.folder ≡ false → (o : Option ℕ) → child_in s f c ≡ o → is_some (onwards o (node_doc s)) ≡ is_some o
  doc_there c document None is = refl
  doc_there c document (Some k) is =
      let kid = found_in (λ j. same_child c (node_child s j)) (node_kids s f) k is in
      let same : c ≡ node_child s k = (same_child-Decides c (node_child s k)).0 kid.1 in
      listed.contents k (child_in_live s root f k c listed is) ∙ ap not (sym (ap (λ (d : Child). d.folder) same) ∙ document)

  pub listed_kids : are_documents w.docs ≡ true → is_sorted (children p (paths_in w.docs)) ≡ true
      → ((c : Child) → c.folder ≡ false → list_any (same_child c) (children p (paths_in w.docs)) ≡ is_some (doc_in (child_at p c) w.docs))
      → ((c : Child) → c.folder ≡ true → list_any (same_child c) (children p (paths_in w.docs)) ≡ has_below (child_at p c) w.docs)
      → map (node_child s) (node_kids s f) ≡ children p (paths_in w.docs)
  listed_kids plain sorted documents folders =
      sorted_equal (map (node_child s) (node_kids s f)) (children p (paths_in w.docs)) (listed.sorted f) sorted
      (λ c. any_kid s f c
      ∙ ⊎_elim
      (λ is.
      let not_root : is_root (child_at p c) ≡ false = and_right c.folder (is_nil (child_at p c).names) (not_nil p.names c.name) in
      sym (ap is_some (to_child c)) ∙ sym (shows.folders (child_at p c) is)
      ∙ ap (λ b. b || has_below (child_at p c) w.docs) not_root ∙ sym (folders c is))
      (λ is.
      sym (doc_there c is (child_in s f c) refl) ∙ sym (ap (λ o. is_some (onwards o (node_doc s))) (to_child c))
      ∙ sym (ap is_some (shows.documents (child_at p c))) ∙ sym (documents c is))
      (cases_Bool c.folder))

-- ---- where no folder is

nil_of : (cs : List Child) → ((c : Child) → list_any (same_child c) cs ≡ false) → cs ≡ []
nil_of [] each = refl
nil_of (x ∷ xs) each = absurd (true≢false (sym (or_left (same_child x x) (list_any (same_child x) xs) ((same_child-Decides x x).1 refl)) ∙ each x))

pub no_children : (s : Slab Node) (root : ℕ) (w : Contents) (p : Path) → p.folder ≡ true → NodesShow s root w → key_at s root p ≡ None
    → ((c : Child) → c.folder ≡ false → list_any (same_child c) (children p (paths_in w.docs)) ≡ is_some (doc_in (child_at p c) w.docs))
    → ((c : Child) → c.folder ≡ true → list_any (same_child c) (children p (paths_in w.docs)) ≡ has_below (child_at p c) w.docs)
    → children p (paths_in w.docs) ≡ []
no_children s root w p folder shows none documents folders =
    nil_of (children p (paths_in w.docs))
    (λ c.
    let gone : key_at s root (child_at p c) ≡ None = key_child s root p c folder ∙ ap (λ o. onwards o (λ f. child_in s f c)) none in
    ⊎_elim
    (λ is.
    folders c is
    ∙ (or_parts (is_root (child_at p c)) (has_below (child_at p c) w.docs) (shows.folders (child_at p c) is ∙ ap is_some gone)).1)
    (λ is.
    documents c is ∙ ap is_some (shows.documents (child_at p c)) ∙ ap (λ o. is_some (onwards o (node_doc s))) gone)
    (cases_Bool c.folder))
