-- What a Put needs, made ready before it.
use Rattle.std.specs.Prelude.{◌≡◌, ◌<◌, ◌≤◌, ℕ, Bool, true, false, not, List, [], ◌∷◌, ◌++◌, length, drop, Option, Some, None, vec_capacity, if◌then◌else◌}
use Rattle.slab.specs.Slab.{Slab, HasRoomFor}
use Rattle.rs_path.specs.Paths.{Path, is_nil}
use Rattle.rs_rules.specs.declared.doc.Doc.{Doc}
use Rattle.rs_chain.specs.declared.node.Node.{Node}
use Rattle.rs_chain.specs.declared.room.Room.{Room}
use Rattle.rs_chain.specs.declared.room.Room.TheVariants.{Over, Under}
use Rattle.rs_chain.specs.Nodes.{node_kids, node_room}
use Rattle.rs_chain.specs.Walks.{child_in, key_at, step_at, front_at}

-- a node that is in no folder yet: of the name, a folder where names are behind it, the document else
pub record IsFreshNode (x : Node) (name : List ℕ) (behind : List (List ℕ)) (doc : Doc) : Type 0 where
  pub child : x.child ≡ record { name = name; folder = not (is_nil behind) }
  pub content : x.doc ≡ (if is_nil behind then Some doc else None)
  pub bare : x.kids.items ≡ []
  pub alone : x.first ≡ None
  pub room : is_nil behind ≡ false → 0 < vec_capacity x.kids

-- a node for each name, the first name's last
abbrev pub AreFresh : List (List ℕ) → Doc → List Node → Type 0
AreFresh [] doc nodes = nodes ≡ []
AreFresh (n ∷ ns) doc nodes = (x : Node) × (later : List Node) × (nodes ≡ later ++ x ∷ []) × IsFreshNode x n ns doc × AreFresh ns doc later

-- the folder is the deepest that is there on the way to the path; there are nodes for the names behind it, and room for them
pub record IsUnder (nodes : Slab Node) (root : ℕ) (path : Path) (doc : Doc) (folder : ℕ) (fresh : List Node) : Type 0 where
  pub depth : ℕ
  pub within : depth < length path.names
  pub front : key_at nodes root (front_at path depth) ≡ Some folder
  pub free : child_in nodes folder (step_at path depth) ≡ None
  pub waiting : AreFresh (drop depth path.names) doc fresh
  pub slots : HasRoomFor nodes (length fresh)
  pub room : length (node_kids nodes folder) < node_room nodes folder

-- a document that has no version yet
abbrev pub undated_doc : List ℕ → List ℕ → Doc
undated_doc kind body = record { version = 0; kind = kind; body = body }

-- where the document is to go
abbrev pub IsPlaceIn : Slab Node → ℕ → Room → Path → Doc → Type 0
IsPlaceIn nodes root (Over key doc) path put = (doc ≡ put) × (key_at nodes root path ≡ Some key)
IsPlaceIn nodes root (Under folder fresh) path put = (key_at nodes root path ≡ None) × IsUnder nodes root path put folder fresh.items

-- room for a document of this path, content type and body
pub record IsSpareFor (nodes : Slab Node) (root : ℕ) (room : Room) (path : Path) (kind body : List ℕ) : Type 0 where
  pub document : path.folder ≡ false
  pub named : is_nil path.names ≡ false
  pub few : length path.names ≤ 32
  pub place : IsPlaceIn nodes root room path (undated_doc kind body)
