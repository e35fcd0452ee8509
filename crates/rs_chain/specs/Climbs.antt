-- The way up from a node, and what a climb leaves.
use Rattle.std.specs.Prelude.{◌≡◌, ◌↔◌, ℕ, ◌+◌, List, [], ◌∷◌, length, Option, Some, None, if◌then◌else◌}
use Rattle.slab.specs.Slab.{Slab, ContainsKey}
use Rattle.rs_chain.specs.declared.node.Node.{Node}
use Rattle.rs_chain.specs.Nodes.{node_parent, node_first, node_next, node_prev, node_number, SameButNumbers}
use Rattle.rs_chain.specs.Rings.{In, is_in, AreRings, taken_out, put_first}

-- the second are the folders above the first, from its parent up
abbrev pub Climbs : (ℕ → Option ℕ) → ℕ → List ℕ → Type 0
Climbs parent i [] = parent i ≡ None
Climbs parent i (f ∷ fs) = (parent i ≡ Some f) × Climbs parent f fs

-- the node and each folder above it but the last is the first of its siblings
abbrev pub lifted : ℕ → List ℕ → (ℕ → List ℕ) → ℕ → List ℕ
lifted i [] order = order
lifted i (f ∷ fs) order = lifted f fs (put_first f i (taken_out f i order))

-- each child is in its parent's ring and in no other, and each parent is there
pub record AreLinked (nodes : Slab Node) (order : ℕ → List ℕ) : Type 0 where
  pub rings : AreRings (node_next nodes) (node_prev nodes) (node_first nodes) order
  pub members : (f i : ℕ) → In i (order f) ↔ (node_parent nodes i ≡ Some f)
  pub held : (f i : ℕ) → node_parent nodes i ≡ Some f → ContainsKey nodes f

-- the node and the folders above it have the number and no other node does, each is the first of its siblings, all else is
-- as before, and so many steps were taken
pub record Climbed (old new : Slab Node) (order : ℕ → List ℕ) (from : ℕ) (above : List ℕ) (n before after : ℕ) : Type 0 where
  pub linked : AreLinked new (lifted from above order)
  pub numbers : (key : ℕ) → node_number new key ≡ (if is_in key (from ∷ above) then n else node_number old key)
  pub same : SameButNumbers old new
  pub steps : after ≡ before + length above + 1
