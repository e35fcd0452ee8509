-- The text of a folder description is UTF-8.
use Rattle.std.proofs.Common.{◌≡◌, ℕ, ◌^◌, Bool, true, false, List, [], ◌∷◌, ◌++◌, map, Option, Some, None, codes, decimal, IsUtf8, refl, ltb-true}
use Rattle.std.specs.List.{list_all, flat_map}
use Rattle.std.proofs.lemmas.Bool.{and_parts}
use Rattle.std.proofs.lemmas.Fmt.{IsAscii-decimal}
use Rattle.std.proofs.lemmas.Str.{IsUtf8-append, IsUtf8-from_ascii}
use Rattle.json.specs.Print.{quoted}
use Rattle.json.proofs.Printed.Utf8.{IsUtf8-are_ascii, IsUtf8-quoted}
use Rattle.rs_path.specs.declared.entry.Entry.{Entry}
use Rattle.rs_path.specs.Kinds.{is_kind}
use Rattle.rs_path.specs.Tags.{is_tag}
use Rattle.rs_path.specs.Keys.{key_text}
use Rattle.rs_path.specs.Items.{entry_key, holds_of, is_u64, is_entry}
use Rattle.rs_path.proofs.Cited.{kind_text, name_text, tag_text}
use Rattle.rs_folder.specs.Descriptions.{member_text, with_commas, braced, length_members, kind_members, tag_members, entry_text, context, folder_text}
use Rattle.rs_folder.proofs.PartLemmas.{HasParts-from}

member_utf8 : (key value : List ℕ) → IsUtf8 key → IsUtf8 value → IsUtf8 (member_text key value)
member_utf8 key value k v = IsUtf8-append (quoted key) (58 ∷ value) (IsUtf8-quoted key k) (IsUtf8-append (58 ∷ []) value (IsUtf8-are_ascii (58 ∷ []) refl) v)

abbrev AreTexts : List (List ℕ) → Type 0
AreTexts [] = Unit {0}
AreTexts (x ∷ xs) = IsUtf8 x × AreTexts xs

AreTexts-append : (xs ys : List (List ℕ)) → AreTexts xs → AreTexts ys → AreTexts (xs ++ ys)
AreTexts-append [] ys h k = k
AreTexts-append (x ∷ xs) ys h k = (h.0, AreTexts-append xs ys h.1 k)

others_utf8 : (xs : List (List ℕ)) → AreTexts xs → IsUtf8 (flat_map (λ other. 44 ∷ other) xs)
others_utf8 [] h = IsUtf8-are_ascii [] refl
others_utf8 (x ∷ xs) h =
    IsUtf8-append (44 ∷ x) (flat_map (λ other. 44 ∷ other) xs) (IsUtf8-append (44 ∷ []) x (IsUtf8-are_ascii (44 ∷ []) refl) h.0) (others_utf8 xs h.1)

joined_utf8 : (xs : List (List ℕ)) → AreTexts xs → IsUtf8 (with_commas xs)
joined_utf8 [] h = IsUtf8-are_ascii [] refl
joined_utf8 (x ∷ xs) h = IsUtf8-append x (flat_map (λ other. 44 ∷ other) xs) h.0 (others_utf8 xs h.1)

braced_utf8 : (xs : List (List ℕ)) → AreTexts xs → IsUtf8 (braced xs)
braced_utf8 xs h =
    IsUtf8-append (123 ∷ []) (with_commas xs ++ 125 ∷ []) (IsUtf8-are_ascii (123 ∷ []) refl)
    (IsUtf8-append (with_commas xs) (125 ∷ []) (joined_utf8 xs h) (IsUtf8-are_ascii (125 ∷ []) refl))

key_utf8 : (name : List ℕ) (folder : Bool) → IsUtf8 name → IsUtf8 (key_text name folder)
key_utf8 name true u = IsUtf8-append name (47 ∷ []) u (IsUtf8-are_ascii (47 ∷ []) refl)
key_utf8 name false u = u

length_utf8 : (length : Option ℕ) → holds_of is_u64 length ≡ true → AreTexts (length_members length)
length_utf8 None is = tt
length_utf8 (Some n) is =
    let text = IsUtf8-from_ascii (decimal n) (IsAscii-decimal n (ltb-true n (2 ^ 64) is)) in
    (member_utf8 (codes "Content-Length") (decimal n) (IsUtf8-are_ascii (codes "Content-Length") refl) text, tt)

kind_utf8 : (kind : Option (List ℕ)) → holds_of is_kind kind ≡ true → AreTexts (kind_members kind)
kind_utf8 None is = tt
kind_utf8 (Some kind) is =
    (member_utf8 (codes "Content-Type") (quoted kind) (IsUtf8-are_ascii (codes "Content-Type") refl) (IsUtf8-quoted kind (kind_text kind is)), tt)

tag_utf8 : (tag : List ℕ) → is_tag tag ≡ true → AreTexts (tag_members tag)
tag_utf8 tag is = (member_utf8 (codes "ETag") (quoted tag) (IsUtf8-are_ascii (codes "ETag") refl) (IsUtf8-quoted tag (tag_text tag is)), tt)

entry_utf8 : (e : Entry) → is_entry e ≡ true → IsUtf8 (entry_text e)
entry_utf8 e is =
    let parts = HasParts-from e is in
    let others = AreTexts-append (kind_members e.kind) (tag_members e.tag) (kind_utf8 e.kind parts.kind) (tag_utf8 e.tag parts.tag) in
    let all = AreTexts-append (length_members e.length) (kind_members e.kind ++ tag_members e.tag) (length_utf8 e.length parts.length) others in
    member_utf8 (entry_key e) (braced (length_members e.length ++ (kind_members e.kind ++ tag_members e.tag)))
    (key_utf8 e.name e.folder (name_text e.name parts.name)) (braced_utf8 (length_members e.length ++ (kind_members e.kind ++ tag_members e.tag)) all)

items_utf8 : (items : List Entry) → list_all is_entry items ≡ true → AreTexts (map entry_text items)
items_utf8 [] all = tt
items_utf8 (e ∷ es) all = let parts = and_parts (is_entry e) (list_all is_entry es) all in (entry_utf8 e parts.0, items_utf8 es parts.1)

pub folder_utf8 : (items : List Entry) → list_all is_entry items ≡ true → IsUtf8 (folder_text items)
folder_utf8 items all =
    let context_text = member_utf8 (codes "@context") (quoted context) (IsUtf8-are_ascii (codes "@context") refl) (IsUtf8-quoted context (IsUtf8-are_ascii context refl)) in
    let items_text = member_utf8 (codes "items") (braced (map entry_text items)) (IsUtf8-are_ascii (codes "items") refl) (braced_utf8 (map entry_text items) (items_utf8 items all)) in
    braced_utf8 (member_text (codes "@context") (quoted context) ∷ member_text (codes "items") (braced (map entry_text items)) ∷ []) (context_text, (items_text, tt))
