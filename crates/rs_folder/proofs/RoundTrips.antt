-- What is written is read back.
use Rattle.std.proofs.Common.{◌≡◌, ℕ, ◌-◌, Bool, true, false, cond, List, [], ◌∷◌, ◌++◌, length, take, drop, Option, Some, None, Ok, refl, sym, ap, ◌∙◌, arith, append_assoc, append-nil, length-append}
use Rattle.std.specs.List.{list_all}
use Rattle.std.proofs.Math.Seq.{take-append_seam, drop-append_seam}
use Rattle.std.proofs.lemmas.Bool.{and_parts}
use Rattle.std.proofs.lemmas.List.Elements.{All-drop, All-same, All-head}
use Rattle.std.proofs.lemmas.Slice.Eq.{bytes_eq-Decides}
use Rattle.std.proofs.lemmas.Str.{is_utf8-from_IsUtf8}
use Rattle.serde_json.specs.Data.{object}
use Rattle.rs_path.specs.declared.entry.Entry.{Entry}
use Rattle.rs_path.specs.Names.{is_name}
use Rattle.rs_path.specs.Kinds.{is_kind}
use Rattle.rs_path.specs.Tags.{is_tag}
use Rattle.rs_path.specs.Keys.{key_text}
use Rattle.rs_path.specs.Items.{entry_key, is_item, is_ascending, holds_of, is_entry}
use Rattle.rs_path.specs.Readings.{is_slash}
use Rattle.rs_path.proofs.Cited.{name_without_slash}
use Rattle.rs_folder.specs.Descriptions.{folder_text}
use Rattle.rs_folder.proofs.FolderData.{tag_data, kind_data, length_data, entry_data, items_data}
use Rattle.rs_folder.specs.FolderReadings.{is_folder_key, key_name, item_tag, item_kind, item_length, item_with, entry_reading, items_from, folder_reading}
use Rattle.rs_folder.proofs.PartLemmas.{HasParts-from}
use Rattle.rs_folder.proofs.Utf8Lemmas.{folder_utf8}
use Rattle.rs_folder.proofs.ValueLemmas.{read-folder_text}

-- ---- the key

abbrev NoSlash : ℕ → Type 0
NoSlash byte = is_slash byte ≡ false

not_true : (b : Bool) → (b ≡ true → ⊥) → b ≡ false
not_true true no_way = absurd (no_way refl)
not_true false no_way = refl

document_key : (name : List ℕ) → is_name name ≡ true → is_folder_key name ≡ false
document_key name named = not_true (is_folder_key name) (λ is.
    let last = (bytes_eq-Decides (drop (length name - 1) name) (47 ∷ [])).0 is in
    let none = All-same NoSlash (47 ∷ []) (drop (length name - 1) name) (sym last) (All-drop NoSlash (length name - 1) name (name_without_slash name named)) in
    let slash : true ≡ false = All-head NoSlash 47 [] none in
    cc)

before_slash : (name : List ℕ) → length (name ++ 47 ∷ []) - 1 ≡ length name
before_slash name = omega (arith, length-append name (47 ∷ []))

folder_key : (name : List ℕ) → is_folder_key (name ++ 47 ∷ []) ≡ true
folder_key name =
    (bytes_eq-Decides (drop (length (name ++ 47 ∷ []) - 1) (name ++ 47 ∷ [])) (47 ∷ [])).1
    (ap (λ n. drop n (name ++ 47 ∷ [])) (before_slash name) ∙ drop-append_seam name (47 ∷ []))

is_folder_key-key : (name : List ℕ) (folder : Bool) → is_name name ≡ true → is_folder_key (key_text name folder) ≡ folder
is_folder_key-key name true named = folder_key name
is_folder_key-key name false named = document_key name named

key_name-key : (name : List ℕ) (folder : Bool) → is_name name ≡ true → key_name (key_text name folder) ≡ name
key_name-key name true named = rw (folder_key name) (ap (λ n. take n (name ++ 47 ∷ [])) (before_slash name) ∙ take-append_seam name (47 ∷ []))
key_name-key name false named = rw (document_key name named) refl

-- ---- the value

tag_found : (length : Option ℕ) (kind : Option (List ℕ)) (tag : List ℕ) → is_tag tag ≡ true → item_tag (object (length_data length (kind_data kind (tag_data tag)))) ≡ Some tag
tag_found None None tag is = rw is refl
tag_found None (Some kind) tag is = rw is refl
tag_found (Some n) None tag is = rw is refl
tag_found (Some n) (Some kind) tag is = rw is refl

kind_found : (length : Option ℕ) (kind : Option (List ℕ)) (tag : List ℕ) → holds_of is_kind kind ≡ true → item_kind (object (length_data length (kind_data kind (tag_data tag)))) ≡ kind
kind_found None None tag is = refl
kind_found None (Some kind) tag is = rw is refl
kind_found (Some n) None tag is = refl
kind_found (Some n) (Some kind) tag is = rw is refl

length_found : (length : Option ℕ) (kind : Option (List ℕ)) (tag : List ℕ) → item_length (object (length_data length (kind_data kind (tag_data tag)))) ≡ length
length_found None None tag = refl
length_found None (Some kind) tag = refl
length_found (Some n) None tag = refl
length_found (Some n) (Some kind) tag = refl

abbrev Made : List ℕ → Bool → List ℕ → Option (List ℕ) → Option ℕ → Entry
Made name folder tag kind length = record { name = name; folder = folder; tag = tag; kind = kind; length = length }

-- a folder's item has neither kind nor length
plain_parts : (name : List ℕ) (folder : Bool) (tag : List ℕ) (kind : Option (List ℕ)) (length : Option ℕ) → is_item (Made name folder tag kind length) ≡ true
    → Made name folder tag (cond folder None kind) (cond folder None length) ≡ Made name folder tag kind length
plain_parts name true tag None None plain = refl
plain_parts name true tag (Some kind) length plain = absurd cc
plain_parts name true tag None (Some n) plain = absurd cc
plain_parts name false tag kind length plain = refl

item_again : (e : Entry) → is_entry e ≡ true → is_item e ≡ true → item_with e.name e.folder e.tag (entry_data e) ≡ e
item_again e is plain =
    let parts = HasParts-from e is in
    ap (λ kind. Made e.name e.folder e.tag (cond e.folder None kind) (cond e.folder None (item_length (entry_data e)))) (kind_found e.length e.kind e.tag parts.kind)
    ∙ ap (λ length. Made e.name e.folder e.tag (cond e.folder None e.kind) (cond e.folder None length)) (length_found e.length e.kind e.tag)
    ∙ plain_parts e.name e.folder e.tag e.kind e.length plain

item_back : (e : Entry) → is_entry e ≡ true → is_item e ≡ true → entry_reading (entry_key e) (entry_data e) ≡ Some e
item_back e is plain =
    let parts = HasParts-from e is in
    rw (key_name-key e.name e.folder parts.name, is_folder_key-key e.name e.folder parts.name, parts.name, tag_found e.length e.kind e.tag parts.tag)
    (ap Some (item_again e is plain))

items_back : (done items : List Entry) → list_all is_entry items ≡ true → list_all is_item items ≡ true → items_from done (items_data items) ≡ Ok (done ++ items)
items_back done [] all plain = ap Ok (sym (append-nil done))
items_back done (e ∷ es) all plain =
    let parts = and_parts (is_entry e) (list_all is_entry es) all in
    let items = and_parts (is_item e) (list_all is_item es) plain in
    rw (item_back e parts.0 items.0) (items_back (done ++ e ∷ []) es parts.1 items.1 ∙ ap Ok (append_assoc done (e ∷ []) es))

-- the text of items is read as these items
pub folder_back : (items : List Entry) → is_ascending items ≡ true → list_all is_item items ≡ true → list_all is_entry items ≡ true
    → folder_reading (folder_text items) ≡ Ok items
folder_back items ascending plain all =
    rw (is_utf8-from_IsUtf8 (folder_text items) (folder_utf8 items all), read-folder_text items ascending all) (items_back [] items all plain)
