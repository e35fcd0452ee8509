-- No two ways lead to one node.
use Rattle.std.proofs.Common.{◌≡◌, ℕ, Bool, true, false, ◌||◌, not, List, [], ◌∷◌, ◌++◌, Option, Some, None, refl, sym, ap, ◌∙◌, subst}
use Rattle.slab.specs.Slab.{Slab}
use Rattle.rs_path.specs.declared.child.Child.{Child}
use Rattle.rs_path.specs.Paths.{Path, is_nil}
use Rattle.rs_path.specs.Children.{same_child, child_at}
use Rattle.rs_path.specs.ChildOrder.{same_child-Decides}
use Rattle.rs_chain.specs.declared.node.Node.{Node}
use Rattle.rs_chain.specs.Nodes.{node_child, node_kids, node_parent}
use Rattle.rs_chain.specs.Walks.{onwards, child_in, way, steps_of, key_at, AreListed}
use Rattle.rs_chain.proofs.WalkLemmas.{found_in, child_in_parent, way_some}

-- the child that is found has the name
pub child_in_name : (s : Slab Node) (f k : ℕ) (c : Child) → child_in s f c ≡ Some k → c ≡ node_child s k
child_in_name s f k c found =
    (same_child-Decides c (node_child s k)).0 (found_in (λ j. same_child c (node_child s j)) (node_kids s f) k found).1

-- from a node up to the root, these are the names, the node's own first
abbrev pub Trace : Slab Node → ℕ → ℕ → List Child → Type 0
Trace s root k [] = k ≡ root
Trace s root k (c ∷ cs) = (node_child s k ≡ c) × (f : ℕ) × (node_parent s k ≡ Some f) × Trace s root f cs

one_folder : (f g : ℕ) (o : Option ℕ) → o ≡ Some f → o ≡ Some g → f ≡ g
one_folder f g o one two = cc

trace_same : (s : Slab Node) (root k : ℕ) (cs ds : List Child) → node_parent s root ≡ None → Trace s root k cs → Trace s root k ds → cs ≡ ds
trace_same s root k [] [] top one two = refl
trace_same s root k [] (d ∷ ds) top one two =
    let up : node_parent s root ≡ Some two.1 = ap (node_parent s) (sym one) ∙ two.2 in
    absurd (cc (top, up))
trace_same s root k (c ∷ cs) [] top one two =
    let up : node_parent s root ≡ Some one.1 = ap (node_parent s) (sym two) ∙ one.2 in
    absurd (cc (top, up))
trace_same s root k (c ∷ cs) (d ∷ ds) top one two =
    let folder : one.1 ≡ two.1 = one_folder one.1 two.1 (node_parent s k) one.2 two.2 in
    let rest : cs ≡ ds = trace_same s root two.1 cs ds top (subst (λ g. Trace s root g cs) folder one.3) two.3 in
    ap (λ x. x ∷ cs) (sym one.0 ∙ two.0) ∙ ap (λ xs. d ∷ xs) rest

-- the children of a way, turned round, in front of others
abbrev turned : List Child → List Child → List Child
turned [] later = later
turned (c ∷ cs) later = turned cs (c ∷ later)

module _ (s : Slab Node) (root : ℕ) (listed : AreListed s root) where
  -- a way from a node that has a trace
  way_trace : (at k : ℕ) (cs above : List Child) → Trace s root at above → way (child_in s) at cs ≡ Some k → Trace s root k (turned cs above)
  way_trace at k [] above trace there =
      let same : at ≡ k = cc in subst (λ j. Trace s root j above) same trace
  way_trace at k (c ∷ cs) above trace there =
      by (child_in s at c) refl (λ g onward rest. way_trace g k cs (c ∷ above) onward rest)
    where
      by : (o : Option ℕ) → child_in s at c ≡ o → ((g : ℕ) → Trace s root g (c ∷ above) → way (child_in s) g cs ≡ Some k → Trace s root k (turned cs (c ∷ above)))
          → Trace s root k (turned cs (c ∷ above))
      by None is later =
          let none : None ≡ Some k = sym (ap (λ p. onwards p (λ key. way (child_in s) key cs)) is) ∙ there in absurd (cc)
      by (Some g) is later = later g (sym (child_in_name s at g c is), at, child_in_parent s root at g c listed is, trace) (sym (way_some s at g c cs is) ∙ there)

-- turning round twice gives what was
turned_twice : (cs later : List Child) → turned (turned cs later) [] ≡ turned later cs
turned_twice [] later = refl
turned_twice (c ∷ cs) later = turned_twice cs (c ∷ later)

back : (cs ds : List Child) → turned cs [] ≡ turned ds [] → cs ≡ ds
back cs ds same = sym (turned_twice cs []) ∙ ap (λ l. turned l []) same ∙ turned_twice ds []

-- one node, one way
pub one_way : (s : Slab Node) (root k : ℕ) (cs ds : List Child) → AreListed s root → way (child_in s) root cs ≡ Some k → way (child_in s) root ds ≡ Some k → cs ≡ ds
one_way s root k cs ds listed one two =
    back cs ds (trace_same s root k (turned cs []) (turned ds []) listed.root_top (way_trace s root listed root k cs [] refl one) (way_trace s root listed root k ds [] refl two))

-- ---- the steps of a path tell it

heads : (c d : Child) (cs ds : List Child) → c ∷ cs ≡ d ∷ ds → c ≡ d
heads c d cs ds same = cc

tails : (c d : Child) (cs ds : List Child) → c ∷ cs ≡ d ∷ ds → cs ≡ ds
tails c d cs ds same = cc

pub steps_names : (ms ns : List (List ℕ)) (a b : Bool) → steps_of ms a ≡ steps_of ns b → ms ≡ ns
steps_names [] [] a b same = refl
steps_names [] (n ∷ ns) a b same = absurd (cc)
steps_names (m ∷ ms) [] a b same = absurd (cc)
steps_names (m ∷ ms) (n ∷ ns) a b same =
    let head = heads _ _ (steps_of ms a) (steps_of ns b) same in
    let rest = steps_names ms ns a b (tails _ _ (steps_of ms a) (steps_of ns b) same) in
    ap (λ (c : Child). c.name ∷ ms) head ∙ ap (λ l. n ∷ l) rest

or_none : (b : Bool) → (b || false) ≡ b
or_none true = refl
or_none false = refl

pub steps_flag : (m : List ℕ) (ms : List (List ℕ)) (a b : Bool) → steps_of (m ∷ ms) a ≡ steps_of (m ∷ ms) b → a ≡ b
steps_flag m [] a b same =
    let head = heads _ _ [] [] same in sym (or_none a) ∙ ap (λ (c : Child). c.folder) head ∙ or_none b
steps_flag m (n ∷ ns) a b same = steps_flag n ns a b (tails _ _ (steps_of (n ∷ ns) a) (steps_of (n ∷ ns) b) same)
