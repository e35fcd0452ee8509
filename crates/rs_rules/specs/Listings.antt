-- The items of a folder (draft-dejong-remotestorage, section 4).
use Rattle.std.specs.Prelude.{ℕ, List, [], length, map, fold, filter_map, Option, None, decimal, option_map, if◌then◌else◌}
use Rattle.std.specs.BTreeSet.{insert_key}
use Rattle.rs_path.specs.declared.child.Child.{Child}
use Rattle.rs_path.specs.declared.entry.Entry.{Entry}
use Rattle.rs_path.specs.Paths.{Path}
use Rattle.rs_path.specs.Children.{child_cmp, child_at, child_towards}
use Rattle.rs_rules.specs.declared.doc.Doc.{Doc}
use Rattle.rs_rules.specs.Documents.{doc_in}
use Rattle.rs_rules.specs.Contents.{Contents, paths_in}

-- the children of the folder that the paths are or are below, each once, in byte order of their keys
abbrev pub children : Path → List Path → List Child
children folder paths = fold (insert_key child_cmp) [] (filter_map (child_towards folder) paths)

-- the item of a child: its tag is its version in decimal; a document has its content type and its length
abbrev pub item_at : ℕ → Child → Option Doc → Entry
item_at version child doc = record {
  name = child.name;
  folder = child.folder;
  tag = decimal version;
  kind = option_map (λ (d : Doc). d.kind) doc;
  length = option_map (λ (d : Doc). length d.body) doc;
}

-- the item of a child of the folder; at a folder's path there is no document
abbrev pub item_of : Contents → Path → Child → Entry
item_of w folder child =
    let path = child_at folder child in item_at (w.version path) child (if child.folder then None else doc_in path w.docs)

-- the items of the folder: its documents, and its folders with a document below them
abbrev pub items_in : Contents → Path → List Entry
items_in w folder = map (item_of w folder) (children folder (paths_in w.docs))
