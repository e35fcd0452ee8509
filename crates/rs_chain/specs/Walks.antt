-- The way down from the root, by the names of a path.
use Rattle.std.specs.Prelude.{◌≡◌, ◌↔◌, ◌<◌, ◌≤◌, ℕ, ◌+◌, Bool, true, not, ◌||◌, List, [], ◌∷◌, map, find, length, get_or, take, drop, Option, Some, None, is_some}
use Rattle.slab.specs.Slab.{Slab, ContainsKey}
use Rattle.rs_path.specs.declared.child.Child.{Child}
use Rattle.std.specs.declared.cmp.Ordering.TheVariants.{Less, Greater}
use Rattle.rs_path.specs.Children.{same_child, child_cmp}
use Rattle.rs_path.specs.Paths.{Path, is_nil}
use Rattle.rs_rules.specs.Laws.{is_sorted}
use Rattle.rs_chain.specs.declared.node.Node.{Node}
use Rattle.rs_chain.specs.Nodes.{node_child, node_doc, node_kids, node_parent}
use Rattle.rs_chain.specs.Rings.{is_in}

-- on from a key, if there is one
abbrev pub onwards : {X : Type 0} → Option ℕ → (ℕ → Option X) → Option X
onwards None go = None
onwards (Some key) go = go key

-- the key of the folder's child
abbrev pub child_in : Slab Node → ℕ → Child → Option ℕ
child_in nodes folder child = find (λ key. same_child child (node_child nodes key)) (node_kids nodes folder)

-- from a folder by these children
abbrev pub way : (ℕ → Child → Option ℕ) → ℕ → List Child → Option ℕ
way go at [] = Some at
way go at (child ∷ rest) = onwards (go at child) (λ key. way go key rest)

-- the children on the way to a path: all but the last are folders
abbrev pub steps_of : List (List ℕ) → Bool → List Child
steps_of [] folder = []
steps_of (name ∷ names) folder = record { name = name; folder = folder || not (is_nil names) } ∷ steps_of names folder

-- the key of the path's node
abbrev pub key_at : Slab Node → ℕ → Path → Option ℕ
key_at nodes root path = way (child_in nodes) root (steps_of path.names path.folder)

-- before this place among the kids stand the children before the child, from it on those after it
pub record IsPlaceFor (at : ℕ → Child) (kids : List ℕ) (child : Child) (place : ℕ) : Type 0 where
  pub bound : place ≤ length kids
  pub low : (i d : ℕ) → i < place → child_cmp (at (get_or kids i d)) child ≡ Less
  pub high : (i d : ℕ) → place ≤ i → i < length kids → child_cmp (at (get_or kids i d)) child ≡ Greater

-- the step of this number on the way to a path
abbrev pub step_at : Path → ℕ → Child
step_at path depth = record { name = get_or path.names depth []; folder = path.folder || not (is_nil (drop (depth + 1) path.names)) }

-- the front of a path with so many names: a folder where names are left
abbrev pub front_at : Path → ℕ → Path
front_at path depth = record { names = take depth path.names; folder = path.folder || not (is_nil (drop depth path.names)) }

-- the kids of a folder are the nodes whose parent it is, in the order of their names; a node has a document just where it
-- is no folder, and a parent is a folder; the root is a folder without a parent
pub record AreListed (nodes : Slab Node) (root : ℕ) : Type 0 where
  pub sorted : (f : ℕ) → is_sorted (map (node_child nodes) (node_kids nodes f)) ≡ true
  pub children : (f k : ℕ) → (is_in k (node_kids nodes f) ≡ true) ↔ (node_parent nodes k ≡ Some f)
  pub contents : (k : ℕ) → ContainsKey nodes k → is_some (node_doc nodes k) ≡ not (node_child nodes k).folder
  pub holders : (f k : ℕ) → node_parent nodes k ≡ Some f → (node_child nodes f).folder ≡ true
  pub root_live : ContainsKey nodes root
  pub root_top : node_parent nodes root ≡ None
  pub root_folder : (node_child nodes root).folder ≡ true
