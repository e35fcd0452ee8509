-- A folder description as a value of JSON.
use Rattle.std.specs.Prelude.{ℕ, List, [], ◌∷◌, Option, Some, None, codes}
use Rattle.serde_json.specs.Data.{Data, number, string, object, unsigned, Members, no_members, member}
use Rattle.rs_path.specs.declared.entry.Entry.{Entry}
use Rattle.rs_path.specs.Items.{entry_key}
use Rattle.rs_folder.specs.Descriptions.{context}

abbrev pub tag_data : List ℕ → Members
tag_data tag = member (codes "ETag") (string tag) no_members

abbrev pub kind_data : Option (List ℕ) → Members → Members
kind_data None members = members
kind_data (Some kind) members = member (codes "Content-Type") (string kind) members

abbrev pub length_data : Option ℕ → Members → Members
length_data None members = members
length_data (Some n) members = member (codes "Content-Length") (number (unsigned n)) members

-- what is said of an item
abbrev pub entry_data : Entry → Data
entry_data entry = object (length_data entry.length (kind_data entry.kind (tag_data entry.tag)))

-- the items by their keys
abbrev pub items_data : List Entry → Members
items_data [] = no_members
items_data (entry ∷ entries) = member (entry_key entry) (entry_data entry) (items_data entries)

abbrev pub folder_data : List Entry → Data
folder_data items = object (member (codes "@context") (string context)
    (member (codes "items") (object (items_data items)) no_members))
