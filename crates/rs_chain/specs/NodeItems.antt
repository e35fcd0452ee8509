-- The items of nodes.
use Rattle.std.specs.Prelude.{ℕ, List, map}
use Rattle.slab.specs.Slab.{Slab}
use Rattle.rs_path.specs.declared.entry.Entry.{Entry}
use Rattle.rs_rules.specs.Listings.{item_at}
use Rattle.rs_chain.specs.declared.node.Node.{Node}
use Rattle.rs_chain.specs.Nodes.{node_child, node_doc, node_kids, node_number}

-- the item of a node
abbrev pub node_item : Slab Node → ℕ → Entry
node_item nodes key = item_at (node_number nodes key) (node_child nodes key) (node_doc nodes key)

-- the items of a folder's kids
abbrev pub kid_items : Slab Node → ℕ → List Entry
kid_items nodes folder = map (node_item nodes) (node_kids nodes folder)
