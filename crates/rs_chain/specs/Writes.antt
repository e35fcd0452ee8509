-- What a write does to the nodes before its number is given: a document more, or one fewer.
use Rattle.std.specs.Prelude.{◌≡◌, ◌≢◌, ◌⊎◌, ℕ, Bool, true, false, Option, Some, None}
use Rattle.slab.specs.Slab.{Slab, ContainsKey}
use Rattle.rs_path.specs.Paths.{Path, is_nil, is_root}
use Rattle.rs_path.specs.Below.{is_below}
use Rattle.rs_rules.specs.declared.doc.Doc.{Doc}
use Rattle.rs_chain.specs.declared.node.Node.{Node}
use Rattle.rs_chain.specs.Nodes.{node_doc, node_number, node_kids}
use Rattle.rs_chain.specs.Walks.{key_at, AreListed}
use Rattle.rs_chain.specs.Shown.{is_placed}

-- the path leads to the document, and all other paths lead where they led, but that folders above it may be new
pub record IsPlaced (old new : Slab Node) (root : ℕ) (path : Path) (key : ℕ) (doc : Doc) : Type 0 where
  pub listed : AreListed new root
  pub reached : key_at new root path ≡ Some key
  pub has : node_doc new key ≡ Some doc
  pub kept : (q : Path) (k : ℕ) → key_at old root q ≡ Some k → key_at new root q ≡ Some k
  pub back : (q : Path) (k : ℕ) → key_at new root q ≡ Some k → (key_at old root q ≡ Some k) ⊎ ((q ≡ path) ⊎ ((is_below q path ≡ true) × (node_doc new k ≡ None)))
  pub same : (q : Path) (k : ℕ) → is_placed q ≡ true → q ≢ path → key_at old root q ≡ Some k → (node_doc new k ≡ node_doc old k) × (node_number new k ≡ node_number old k)

-- below the front, and the path or a folder above it
abbrev pub IsUnlinked : Path → Path → Path → Type 0
IsUnlinked path front q = (is_below front q ≡ true) × ((q ≡ path) ⊎ (is_below q path ≡ true))

-- the path and the folders above it that are below the front lead nowhere, all others where they led; the front is `/`
-- or has a child left
pub record IsPruned (old new : Slab Node) (root : ℕ) (path front : Path) (folder : ℕ) : Type 0 where
  pub listed : AreListed new root
  pub below : is_below front path ≡ true
  pub reached : key_at new root front ≡ Some folder
  pub kept : (q : Path) (k : ℕ) → key_at new root q ≡ Some k → key_at old root q ≡ Some k
  pub back : (q : Path) (k : ℕ) → key_at old root q ≡ Some k → (key_at new root q ≡ Some k) ⊎ IsUnlinked path front q
  pub gone : (q : Path) → IsUnlinked path front q → key_at new root q ≡ None
  pub same : (k : ℕ) → ContainsKey new k → (node_doc new k ≡ node_doc old k) × (node_number new k ≡ node_number old k)
  pub last : (is_root front ≡ true) ⊎ (is_nil (node_kids new folder) ≡ false)
