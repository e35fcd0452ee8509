-- What nodes show, and what a linked tree stands for.
use Rattle.std.specs.Prelude.{◌≡◌, ◌<◌, ◌^◌, ℕ, Bool, true, false, not, ◌||◌, List, Option, is_some}
use Rattle.std.specs.Option.{option_map_or}
use Rattle.slab.specs.Slab.{Slab}
use Rattle.rs_path.specs.Paths.{Path, is_nil}
use Rattle.rs_rules.specs.Documents.{doc_in, live_in}
use Rattle.rs_rules.specs.Versions.{is_there, doc_version}
use Rattle.rs_rules.specs.Contents.{Contents}
use Rattle.rs_rules.specs.Sound.{are_distinct, AreDistinct, are_documents}
use Rattle.rs_chain.specs.declared.node.Node.{Node}
use Rattle.rs_chain.specs.Nodes.{node_doc, node_number}
use Rattle.rs_chain.specs.Climbs.{AreLinked}
use Rattle.rs_chain.specs.Walks.{onwards, key_at}

-- a folder, or a document with a name; the way of a document without names would end at the root
abbrev pub is_placed : Path → Bool
is_placed path = path.folder || not (is_nil path.names)

-- the contents, read off at every path
pub record NodesShow (nodes : Slab Node) (root : ℕ) (w : Contents) : Type 0 where
  pub documents : (path : Path) → doc_in path w.docs ≡ onwards (key_at nodes root path) (node_doc nodes)
  pub folders : (path : Path) → path.folder ≡ true → is_there path w.docs ≡ is_some (key_at nodes root path)
  pub versions : (path : Path) → is_placed path ≡ true → w.version path ≡ option_map_or (node_number nodes) (key_at nodes root path) 0

-- each child is in its folder's ring and in no other, the nodes show contents, in which a document's path has the document's
-- version, and these are the bytes of their bodies
pub record NodesStandFor (nodes : Slab Node) (root live : ℕ) (w : Contents) : Type 0 where
  pub order : ℕ → List ℕ
  pub linked : AreLinked nodes order
  pub shows : NodesShow nodes root w
  pub distinct : are_distinct w.docs ≡ true
  pub plain : are_documents w.docs ≡ true
  pub dated : (path : Path) → path.folder ≡ false → w.version path ≡ doc_version (doc_in path w.docs)
  pub live_is : live ≡ live_in w.docs

pub nodes_distinct : (nodes : Slab Node) (root live : ℕ) (w : Contents) → NodesStandFor nodes root live w → AreDistinct w.docs
nodes_distinct nodes root live w s = s.distinct

pub nodes_dated : (nodes : Slab Node) (root live : ℕ) (w : Contents) → NodesStandFor nodes root live w
    → (path : Path) → path.folder ≡ false → w.version path ≡ doc_version (doc_in path w.docs)
nodes_dated nodes root live w s path document = s.dated path document
