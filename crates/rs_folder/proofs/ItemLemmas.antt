-- What is read of an item.
use Rattle.std.proofs.Common.{◌≡◌, ℕ, ◌-◌, Bool, true, false, cond, List, [], ◌∷◌, ◌++◌, length, take, drop, Option, Some, None, option_map, refl, sym, ap, ◌∙◌, take-append-drop}
use Rattle.std.proofs.lemmas.Slice.Eq.{bytes_eq-Decides}
use Rattle.serde_json.specs.Data.{Data}
use Rattle.rs_path.specs.declared.entry.Entry.{Entry}
use Rattle.rs_path.specs.Names.{is_name}
use Rattle.rs_path.specs.Keys.{key_text}
use Rattle.rs_path.specs.Items.{entry_key, is_item}
use Rattle.rs_folder.specs.FolderReadings.{is_folder_key, key_name, item_tag, item_with, entry_reading}

-- the name and the slash give the key back
key_again : (key : List ℕ) (folder : Bool) → is_folder_key key ≡ folder → key_text (cond folder (take (length key - 1) key) key) folder ≡ key
key_again key true is =
    let last = (bytes_eq-Decides (drop (length key - 1) key) (47 ∷ [])).0 is in
    ap (λ end. take (length key - 1) key ++ end) (sym last) ∙ take-append-drop (length key - 1) key
key_again key false is = refl

key_parts : (key : List ℕ) → key_text (key_name key) (is_folder_key key) ≡ key
key_parts key = key_again key (is_folder_key key) refl

item_by : (named : Bool) (tag : Option (List ℕ)) (name : List ℕ) (folder : Bool) (value : Data) (item : Entry)
    → cond named (option_map (λ t. item_with name folder t value) tag) None ≡ Some item → (t : List ℕ) × (item_with name folder t value ≡ item)
item_by true (Some t) name folder value item is = (t, cc)
item_by true None name folder value item is = absurd cc
item_by false tag name folder value item is = absurd cc

item_made : (key : List ℕ) (value : Data) (item : Entry) → entry_reading key value ≡ Some item
    → (t : List ℕ) × (item_with (key_name key) (is_folder_key key) t value ≡ item)
item_made key value item is = item_by (is_name (key_name key)) (item_tag value) (key_name key) (is_folder_key key) value item is

-- an item that was read has the key that it stood at
pub entry_key-reading : (key : List ℕ) (value : Data) (item : Entry) → entry_reading key value ≡ Some item → entry_key item ≡ key
entry_key-reading key value item is = let made = item_made key value item is in ap entry_key (sym made.1) ∙ key_parts key

plain_with : (name : List ℕ) (folder : Bool) (t : List ℕ) (value : Data) → is_item (item_with name folder t value) ≡ true
plain_with name true t value = refl
plain_with name false t value = refl

-- and is one
pub is_item-reading : (key : List ℕ) (value : Data) (item : Entry) → entry_reading key value ≡ Some item → is_item item ≡ true
is_item-reading key value item is =
    let made = item_made key value item is in
    ap is_item (sym made.1) ∙ plain_with (key_name key) (is_folder_key key) made.0 value
