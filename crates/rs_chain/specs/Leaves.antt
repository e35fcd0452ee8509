-- A node more, or one fewer.
use Rattle.std.specs.Prelude.{◌≡◌, ◌≢◌, ◌⊎◌, ◌↔◌, ℕ, ◌+◌, List, [], ◌∷◌, length, Option, Some, None, is_some}
use Rattle.slab.specs.Slab.{Slab, get, ContainsKey, slab_len}
use Rattle.rs_chain.specs.declared.node.Node.{Node}
use Rattle.rs_chain.specs.Nodes.{number, node_child, node_doc, node_number, node_kids, node_parent, ChangesAt}
use Rattle.rs_chain.specs.Rings.{In}

-- `more` has the nodes of `less` and a leaf with this key, a child of the folder, which was or is the node
pub record HasLeaf (less more : Slab Node) (folder key : ℕ) (node : Node) : Type 0 where
  pub none : get less key ≡ None
  pub there : ContainsKey more key
  pub live : (other : ℕ) → other ≢ key → is_some (get more other) ≡ is_some (get less other)
  pub child : ChangesAt (node_child less) (node_child more) key node.child
  pub doc : ChangesAt (node_doc less) (node_doc more) key node.doc
  pub number : ChangesAt (node_number less) (node_number more) key (number node)
  pub parent : ChangesAt (node_parent less) (node_parent more) key (Some folder)
  pub kids : (other : ℕ) → other ≢ folder → node_kids more other ≡ node_kids less other
  pub members : (k : ℕ) → In k (node_kids more folder) ↔ ((k ≡ key) ⊎ In k (node_kids less folder))
  pub fresh : (other : ℕ) → In key (node_kids less other) → ⊥
  pub bare : node_kids more key ≡ []
  pub apart : folder ≢ key
  pub held : ContainsKey less folder
  pub len : slab_len more ≡ slab_len less + 1
  pub capacity : more.capacity ≡ less.capacity
