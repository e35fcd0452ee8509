-- What the nodes of a slab have at each key; of a key without a node, what stands for nothing.
use Rattle.std.specs.Prelude.{◌≡◌, ◌≢◌, ℕ, true, false, List, [], length, Option, Some, None, vec_capacity}
use Rattle.std.specs.Option.{option_map, option_map_or}
use Rattle.slab.specs.Slab.{Slab, get, slab_len}
use Rattle.rs_path.specs.declared.child.Child.{Child}
use Rattle.rs_rules.specs.declared.doc.Doc.{Doc}
use Rattle.rs_chain.specs.declared.node.Node.{Node}

-- one thing of each node
abbrev pub field : {X : Type 0} → (Node → X) → X → Slab Node → ℕ → X
field of none nodes key = option_map_or of (get nodes key) none

-- a name that comes before every other
abbrev pub no_child : Child
no_child = record { name = []; folder = false }

-- its last name, and whether it is a folder
abbrev pub node_child : Slab Node → ℕ → Child
node_child = field (λ (x : Node). x.child) no_child

abbrev pub node_doc : Slab Node → ℕ → Option Doc
node_doc = field (λ (x : Node). x.doc) None

-- a document's version, or a folder's
abbrev pub number : Node → ℕ
number x = option_map_or (λ (d : Doc). d.version) x.doc x.version

abbrev pub node_number : Slab Node → ℕ → ℕ
node_number = field number 0

-- the keys of a folder's children
abbrev pub node_kids : Slab Node → ℕ → List ℕ
node_kids = field (λ (x : Node). x.kids.items) []

-- how many children a folder has room for
abbrev pub node_room : Slab Node → ℕ → ℕ
node_room = field (λ (x : Node). vec_capacity x.kids) 0

abbrev pub node_parent : Slab Node → ℕ → Option ℕ
node_parent = field (λ (x : Node). x.parent) None

abbrev pub node_first : Slab Node → ℕ → Option ℕ
node_first = field (λ (x : Node). x.first) None

abbrev pub node_next : Slab Node → ℕ → ℕ
node_next = field (λ (x : Node). x.next) 0

abbrev pub node_prev : Slab Node → ℕ → ℕ
node_prev = field (λ (x : Node). x.prev) 0

-- the second is the first but for this value at the key
pub record ChangesAt {X : Type 0} (old new : ℕ → X) (key : ℕ) (value : X) : Type 0 where
  pub here : new key ≡ value
  pub others : (other : ℕ) → other ≢ key → new other ≡ old other

-- the second is the first
abbrev pub Stays : {X : Type 0} → (ℕ → X) → (ℕ → X) → Type 0
Stays old new = (key : ℕ) → new key ≡ old key

-- the node without its place among its siblings
abbrev pub unlinked : Node → Node
unlinked x = record x { first = None; next = 0; prev = 0 }

-- nodes are as before but for their places among siblings, and as many have room
pub record SameButLinks (old new : Slab Node) : Type 0 where
  pub nodes : (key : ℕ) → option_map unlinked (get new key) ≡ option_map unlinked (get old key)
  pub len : slab_len new ≡ slab_len old
  pub capacity : new.capacity ≡ old.capacity

-- the document without its version
abbrev pub undated : Doc → Doc
undated d = record d { version = 0 }

-- the node without its place and its version
abbrev pub unnumbered : Node → Node
unnumbered x = record x { doc = option_map undated x.doc; version = 0; first = None; next = 0; prev = 0 }

-- nodes are as before but for their places among siblings and their versions
abbrev pub SameButNumbers : Slab Node → Slab Node → Type 0
SameButNumbers old new = (key : ℕ) → option_map unnumbered (get new key) ≡ option_map unnumbered (get old key)

-- the node without its children
abbrev pub but_kids : Node → Child × Option Doc × ℕ × Option ℕ × Option ℕ × ℕ × ℕ
but_kids x = (x.child, x.doc, x.version, x.parent, x.first, x.next, x.prev)

-- the folder has these children, nodes are as before but for that, and as many have room
pub record ChangesKids (old new : Slab Node) (folder : ℕ) (list : List ℕ) : Type 0 where
  pub kids : ChangesAt (node_kids old) (node_kids new) folder list
  pub nodes : (key : ℕ) → option_map but_kids (get new key) ≡ option_map but_kids (get old key)
  pub rooms : (key : ℕ) → key ≢ folder → node_room new key ≡ node_room old key
  pub len : slab_len new ≡ slab_len old
  pub capacity : new.capacity ≡ old.capacity

-- the node without the room for children
abbrev pub but_room : Node → (Child × Option Doc × ℕ × Option ℕ × Option ℕ × ℕ × ℕ) × List ℕ
but_room x = (but_kids x, x.kids.items)

-- nodes are as before but for room
pub record SameButRoom (old new : Slab Node) : Type 0 where
  pub nodes : (key : ℕ) → option_map but_room (get new key) ≡ option_map but_room (get old key)

-- the node without its document and its version
abbrev pub but_doc : Node → Child × List ℕ × Option ℕ × Option ℕ × ℕ × ℕ
but_doc x = (x.child, x.kids.items, x.parent, x.first, x.next, x.prev)

-- the node has this document, and all else is as before
pub record ReplacesDoc (old new : Slab Node) (key : ℕ) (put : Doc) : Type 0 where
  pub doc : ChangesAt (node_doc old) (node_doc new) key (Some put)
  pub number : (other : ℕ) → other ≢ key → node_number new other ≡ node_number old other
  pub nodes : (other : ℕ) → option_map but_doc (get new other) ≡ option_map but_doc (get old other)

-- the bytes of a body
abbrev pub body_length : Option Doc → ℕ
body_length None = 0
body_length (Some d) = length d.body

-- a folder's node without children, in no folder
pub record IsEmptyFolder (x : Node) : Type 0 where
  pub folder : x.child.folder ≡ true
  pub doc : x.doc ≡ None
  pub version : x.version ≡ 0
  pub kids : x.kids.items ≡ []
  pub parent : x.parent ≡ None
  pub first : x.first ≡ None
