-- A node more among the kids of a folder, or read the other way one fewer: the ways of all other paths stay.
use Rattle.std.proofs.Common.{◌≡◌, ◌⊎◌, ℕ, Bool, true, List, [], ◌∷◌, ◌++◌, Option, Some, None, refl, sym, ap, ◌∙◌, subst, inl, inr, ⊎_elim}
use Rattle.slab.specs.Slab.{Slab}
use Rattle.rs_path.specs.declared.child.Child.{Child}
use Rattle.rs_path.specs.Paths.{Path}
use Rattle.rs_path.specs.Children.{same_child, child_at}
use Rattle.rs_chain.specs.declared.node.Node.{Node}
use Rattle.rs_chain.specs.Nodes.{node_child, node_kids}
use Rattle.rs_chain.specs.Rings.{In}
use Rattle.rs_chain.specs.Walks.{onwards, child_in, way, steps_of, key_at, AreListed}
use Rattle.rs_chain.proofs.WalkLemmas.{found_in, way_some, way_none}
use Rattle.rs_chain.proofs.TraceLemmas.{child_in_name, one_way, steps_names, steps_flag}
use Rattle.rs_chain.proofs.StepLemmas.{key_child, steps_push}
use Rattle.rs_chain.proofs.KidLemmas.{kid_itself}

-- the flag of a path with a name
flag_of : (ns : List (List ℕ)) (n : List ℕ) (a b : Bool) → steps_of (ns ++ n ∷ []) a ≡ steps_of (ns ++ n ∷ []) b → a ≡ b
flag_of [] n a b same = steps_flag n [] a b same
flag_of (m ∷ ms) n a b same = steps_flag m (ms ++ n ∷ []) a b same

-- `more` has the nodes of `less` and a leaf, a child of the folder
pub record IsLeafMore (less more : Slab Node) (root folder leaf : ℕ) (child : Child) : Type 0 where
  pub old : AreListed less root
  pub new : AreListed more root
  pub kept : (g j : ℕ) → In j (node_kids less g) → In j (node_kids more g)
  pub only : (g j : ℕ) → In j (node_kids more g) → In j (node_kids less g) ⊎ ((g ≡ folder) × (j ≡ leaf))
  pub here : In leaf (node_kids more folder)
  pub fresh : (g : ℕ) → In leaf (node_kids less g) → ⊥
  pub bare : (j : ℕ) → In j (node_kids more leaf) → ⊥
  pub names : (j : ℕ) → (j ≡ leaf → ⊥) → node_child more j ≡ node_child less j
  pub name : node_child more leaf ≡ child

module _ (s t : Slab Node) (root f k : ℕ) (c : Child) (l : IsLeafMore s t root f k c) where
  other : (g j : ℕ) → In j (node_kids s g) → j ≡ k → ⊥
  other g j there same = l.fresh g (subst (λ i. In i (node_kids s g)) same there)

  step_kept : (g j : ℕ) (d : Child) → child_in s g d ≡ Some j → child_in t g d ≡ Some j
  step_kept g j d found =
      let there : In j (node_kids s g) = (found_in (λ i. same_child d (node_child s i)) (node_kids s g) j found).0 in
      let name : d ≡ node_child t j = child_in_name s g j d found ∙ sym (l.names j (other g j there)) in
      ap (child_in t g) name ∙ kid_itself t root g j l.new (l.kept g j there)

  step_back : (g j : ℕ) (d : Child) → child_in t g d ≡ Some j → (child_in s g d ≡ Some j) ⊎ ((g ≡ f) × (j ≡ k) × (d ≡ c))
  step_back g j d found =
      let named : d ≡ node_child t j = child_in_name t g j d found in
      ⊎_elim
      (λ was. inl (ap (child_in s g) (named ∙ l.names j (other g j was)) ∙ kid_itself s root g j l.old was))
      (λ it. inr (it.0, it.1, named ∙ ap (node_child t) it.1 ∙ l.name))
      (l.only g j (found_in (λ i. same_child d (node_child t i)) (node_kids t g) j found).0)

  -- the leaf has no child
  step_none : (d : Child) → child_in t k d ≡ None
  step_none d = by (child_in t k d) refl
    where
      by : (o : Option ℕ) → child_in t k d ≡ o → child_in t k d ≡ None
      by None is = is
      by (Some j) is = absurd (l.bare j (found_in (λ i. same_child d (node_child t i)) (node_kids t k) j is).0)

  step_leaf : child_in t f c ≡ Some k
  step_leaf = ap (child_in t f) (sym l.name) ∙ kid_itself t root f k l.new l.here

  none_some : (at j : ℕ) (d : Child) (ds : List Child) (u : Slab Node) → child_in u at d ≡ None → way (child_in u) at (d ∷ ds) ≡ Some j → ⊥
  none_some at j d ds u none there = let clash : None ≡ Some j = sym (way_none u at d ds none) ∙ there in absurd (cc)

  -- a way that was there is there
  pub way_kept : (cs : List Child) (at j : ℕ) → way (child_in s) at cs ≡ Some j → way (child_in t) at cs ≡ Some j
  way_kept [] at j there = there
  way_kept (d ∷ ds) at j there = by (child_in s at d) refl (λ g rest. way_kept ds g j rest)
    where
      by : (o : Option ℕ) → child_in s at d ≡ o → ((g : ℕ) → way (child_in s) g ds ≡ Some j → way (child_in t) g ds ≡ Some j) → way (child_in t) at (d ∷ ds) ≡ Some j
      by None is later = absurd (none_some at j d ds s is there)
      by (Some g) is later = way_some t at g d ds (step_kept at g d is) ∙ later g (sym (way_some s at g d ds is) ∙ there)

  -- a way that is there was there, or it is the leaf's
  way_end : (ds : List Child) (at j : ℕ) (d : Child) → at ≡ f → d ≡ c → way (child_in t) k ds ≡ Some j
      → (j ≡ k) × (front : List Child) × (d ∷ ds ≡ front ++ c ∷ []) × (way (child_in s) at front ≡ Some f)
  way_end [] at j d folder named there = (let same : j ≡ k = cc in same, [], ap (λ x. x ∷ []) named, ap (λ x. Some x) folder)
  way_end (e ∷ es) at j d folder named there = absurd (none_some k j e es t (step_none e) there)

  pub way_back : (cs : List Child) (at j : ℕ) → way (child_in t) at cs ≡ Some j
      → (way (child_in s) at cs ≡ Some j) ⊎ ((j ≡ k) × (front : List Child) × (cs ≡ front ++ c ∷ []) × (way (child_in s) at front ≡ Some f))
  way_back [] at j there = inl there
  way_back (d ∷ ds) at j there = by (child_in t at d) refl (λ g rest. way_back ds g j rest)
    where
      by : (o : Option ℕ) → child_in t at d ≡ o
          → ((g : ℕ) → way (child_in t) g ds ≡ Some j → (way (child_in s) g ds ≡ Some j) ⊎ ((j ≡ k) × (front : List Child) × (ds ≡ front ++ c ∷ []) × (way (child_in s) g front ≡ Some f)))
          → (way (child_in s) at (d ∷ ds) ≡ Some j) ⊎ ((j ≡ k) × (front : List Child) × (d ∷ ds ≡ front ++ c ∷ []) × (way (child_in s) at front ≡ Some f))
      by None is later = absurd (none_some at j d ds t is there)
      by (Some g) is later =
          let rest : way (child_in t) g ds ≡ Some j = sym (way_some t at g d ds is) ∙ there in
          ⊎_elim
          (λ was.
          ⊎_elim
          (λ same. inl (way_some s at g d ds was ∙ same))
          (λ it. inr (it.0, d ∷ it.1, ap (λ x. d ∷ x) it.2, way_some s at g d it.1 was ∙ it.3))
          (later g rest))
          (λ it. inr (way_end ds at j d it.0 it.2 (subst (λ x. way (child_in t) x ds ≡ Some j) it.1 rest)))
          (step_back at g d is)

  -- ---- the keys of paths

  pub key_kept : (q : Path) (j : ℕ) → key_at s root q ≡ Some j → key_at t root q ≡ Some j
  key_kept q j there = way_kept (steps_of q.names q.folder) root j there

  -- the leaf's own path leads to it now
  pub key_leaf : (p : Path) → p.folder ≡ true → key_at s root p ≡ Some f → key_at t root (child_at p c) ≡ Some k
  key_leaf p folder there =
      key_child t root p c folder ∙ ap (λ o. onwards o (λ g. child_in t g c)) (key_kept p f there) ∙ step_leaf

  -- no other path leads anywhere new
  same_front : (p q : Path) (front : List Child) → p.folder ≡ true → key_at s root p ≡ Some f → steps_of q.names q.folder ≡ front ++ c ∷ [] → way (child_in s) root front ≡ Some f
      → q ≡ child_at p c
  same_front p q front folder there steps way_there =
      let fronts : front ≡ steps_of p.names true =
      one_way s root f front (steps_of p.names true) l.old way_there (ap (λ b. way (child_in s) root (steps_of p.names b)) (sym folder) ∙ there) in
      let all : steps_of q.names q.folder ≡ steps_of (p.names ++ c.name ∷ []) c.folder = steps ∙ ap (λ x. x ++ c ∷ []) fronts ∙ sym (steps_push p.names c.name c.folder) in
      let names : q.names ≡ p.names ++ c.name ∷ [] = steps_names q.names (p.names ++ c.name ∷ []) q.folder c.folder all in
      let flag : q.folder ≡ c.folder = flag_of p.names c.name q.folder c.folder (ap (λ ns. steps_of ns q.folder) (sym names) ∙ all) in
      let Record : List (List ℕ) → Bool → Path = λ ns b. record { names = ns; folder = b } in
      ap (λ ns. Record ns q.folder) names ∙ ap (λ b. Record (p.names ++ c.name ∷ []) b) flag

  pub key_back : (p q : Path) (j : ℕ) → p.folder ≡ true → key_at s root p ≡ Some f → key_at t root q ≡ Some j → (key_at s root q ≡ Some j) ⊎ ((j ≡ k) × (q ≡ child_at p c))
  key_back p q j folder there found =
      ⊎_elim
      (λ was. inl was)
      (λ it. inr (it.0, same_front p q it.1 folder there it.2 it.3))
      (way_back (steps_of q.names q.folder) root j found)

  -- a way that doesn't end at the leaf was there
  pub key_lower : (q : Path) (j : ℕ) → (j ≡ k → ⊥) → key_at t root q ≡ Some j → key_at s root q ≡ Some j
  key_lower q j other there = ⊎_elim (λ was. was) (λ it. absurd (other it.0)) (way_back (steps_of q.names q.folder) root j there)
