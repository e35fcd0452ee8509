-- How bytes are read as a folder description: the items, or why there are none.
use Rattle.std.specs.Prelude.{◌≡◌, ℕ, ◌-◌, Bool, List, [], ◌∷◌, ◌++◌, length, take, drop, Option, Some, None, option_map, option_and_then, Result, Ok, Err, codes, if◌then◌else◌}
use Rattle.std.specs.Str.{bytes_eq, is_utf8}
use Rattle.serde_json.specs.Data.{Data, Members, no_members, member}
use Rattle.serde_json.specs.Read.{read}
use Rattle.serde_json.specs.Find.{get, as_str, as_object, as_number, as_u64}
use Rattle.rs_path.specs.declared.entry.Entry.{Entry}
use Rattle.rs_path.specs.Names.{is_name}
use Rattle.rs_path.specs.Tags.{is_tag}
use Rattle.rs_path.specs.Kinds.{is_kind}
use Rattle.rs_folder.specs.declared.folder_fault.FolderFault.{FolderFault}
use Rattle.rs_folder.specs.declared.folder_fault.FolderFault.TheVariants.{NotJson, NoItems, BadItem, NoMemory}

-- the key of a folder ends in `/`
abbrev pub is_folder_key : List ℕ → Bool
is_folder_key key = bytes_eq (drop (length key - 1) key) (47 ∷ [])

-- the key without a folder's slash
abbrev pub key_name : List ℕ → List ℕ
key_name key = if is_folder_key key then take (length key - 1) key else key

-- what passes the test
abbrev pub passing : (List ℕ → Bool) → Option (List ℕ) → Option (List ℕ)
passing test None = None
passing test (Some text) = if test text then Some text else None

-- the text at a key of an object
abbrev pub text_at : List ℕ → Data → Option (List ℕ)
text_at key value = option_and_then as_str (get key value)

-- a text `ETag` that is a tag
abbrev pub item_tag : Data → Option (List ℕ)
item_tag value = passing is_tag (text_at (codes "ETag") value)

-- a text `Content-Type` that is a content type
abbrev pub item_kind : Data → Option (List ℕ)
item_kind value = passing is_kind (text_at (codes "Content-Type") value)

-- a number `Content-Length` below 2 ^ 64, without point and exponent
abbrev pub item_length : Data → Option ℕ
item_length value =
    option_and_then as_u64 (option_and_then as_number (get (codes "Content-Length") value))

-- an item with this tag; a folder has neither content type nor length
abbrev pub item_with : List ℕ → Bool → List ℕ → Data → Entry
item_with name folder tag value = record {
  name = name;
  folder = folder;
  tag = tag;
  kind = if folder then None else item_kind value;
  length = if folder then None else item_length value;
}

-- the item at a key, where its name is one and its value an object with a tag
abbrev pub entry_reading : List ℕ → Data → Option Entry
entry_reading key value = if is_name (key_name key)
    then option_map (λ tag. item_with (key_name key) (is_folder_key key) tag value) (item_tag value)
    else None

-- what follows an item, or the fault of its key
abbrev pub after_entry : Option Entry → List ℕ → (Entry → Result (List Entry) FolderFault)
    → Result (List Entry) FolderFault
after_entry None key reading = Err (BadItem key)
after_entry (Some item) key reading = reading item

-- these items and those of the members, which an object has in the byte order of their keys
abbrev pub items_from : List Entry → Members → Result (List Entry) FolderFault
items_from items no_members = Ok items
items_from items (member key value members) = after_entry (entry_reading key value) key
    (λ item. items_from (items ++ item ∷ []) members)

-- the items of an object `items`
abbrev pub items_reading : Option Members → Result (List Entry) FolderFault
items_reading None = Err NoItems
items_reading (Some members) = items_from [] members

-- the items of a value of JSON
abbrev pub value_reading : Option Data → Result (List Entry) FolderFault
value_reading None = Err NotJson
value_reading (Some value) = items_reading (option_and_then as_object (get (codes "items") value))

-- the items of bytes, which are JSON as `serde_json` reads it
abbrev pub folder_reading : List ℕ → Result (List Entry) FolderFault
folder_reading bytes = if is_utf8 bytes then value_reading (read bytes) else Err NotJson

-- the call read this, or memory ran out
abbrev pub ReadsFolder : Result (List Entry) FolderFault → Result (List Entry) FolderFault → Type 0
ReadsFolder (Ok items) wanted = wanted ≡ Ok items
ReadsFolder (Err NotJson) wanted = wanted ≡ Err NotJson
ReadsFolder (Err NoItems) wanted = wanted ≡ Err NoItems
ReadsFolder (Err (BadItem name)) wanted = wanted ≡ Err (BadItem name)
ReadsFolder (Err NoMemory) wanted = Unit {0}
