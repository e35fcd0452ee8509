-- The text of a folder description is that of its value.
use Rattle.std.proofs.Common.{◌≡◌, ℕ, true, false, List, [], ◌∷◌, ◌++◌, map, Option, Some, None, codes, refl, ap, ap₂, ◌∙◌, append_assoc}
use Rattle.std.specs.List.{flat_map}
use Rattle.json.specs.Print.{quoted}
use Rattle.serde_json.specs.Data.{string, object, Members, no_members, member}
use Rattle.serde_json.specs.Written.{compact_text, members_text}
use Rattle.rs_path.specs.declared.entry.Entry.{Entry}
use Rattle.rs_path.specs.Items.{entry_key}
use Rattle.rs_folder.specs.Descriptions.{member_text, with_commas, braced, length_members, kind_members, tag_members, entry_text, context, folder_text}
use Rattle.rs_folder.proofs.FolderData.{tag_data, kind_data, length_data, entry_data, items_data, folder_data}

-- each member's text
abbrev pieces : Members → List (List ℕ)
pieces no_members = []
pieces (member k d ms) = member_text k (compact_text d) ∷ pieces ms

regroup : (q d rest end : List ℕ) → q ++ 58 ∷ (d ++ (rest ++ end)) ≡ ((q ++ 58 ∷ d) ++ rest) ++ end
regroup q d rest end = simp append_assoc

later_members : (ms : Members) → members_text true ms ≡ flat_map (λ other. 44 ∷ other) (pieces ms) ++ 125 ∷ []
later_members no_members = refl
later_members (member k d ms) =
    ap (λ s. 44 ∷ (quoted k ++ 58 ∷ (compact_text d ++ s))) (later_members ms)
    ∙ ap (λ s. 44 ∷ s) (regroup (quoted k) (compact_text d) (flat_map (λ other. 44 ∷ other) (pieces ms)) (125 ∷ []))

first_members : (ms : Members) → members_text false ms ≡ with_commas (pieces ms) ++ 125 ∷ []
first_members no_members = refl
first_members (member k d ms) =
    ap (λ s. quoted k ++ 58 ∷ (compact_text d ++ s)) (later_members ms)
    ∙ regroup (quoted k) (compact_text d) (flat_map (λ other. 44 ∷ other) (pieces ms)) (125 ∷ [])

object_text : (ms : Members) → compact_text (object ms) ≡ braced (pieces ms)
object_text ms = ap (λ s. 123 ∷ s) (first_members ms)

parts_of : (length : Option ℕ) (kind : Option (List ℕ)) (tag : List ℕ)
    → pieces (length_data length (kind_data kind (tag_data tag))) ≡ length_members length ++ (kind_members kind ++ tag_members tag)
parts_of None None tag = refl
parts_of None (Some kind) tag = refl
parts_of (Some n) None tag = refl
parts_of (Some n) (Some kind) tag = refl

entry_pieces : (e : Entry) → member_text (entry_key e) (compact_text (entry_data e)) ≡ entry_text e
entry_pieces e =
    ap (member_text (entry_key e)) (object_text (length_data e.length (kind_data e.kind (tag_data e.tag))) ∙ ap braced (parts_of e.length e.kind e.tag))

items_pieces : (items : List Entry) → pieces (items_data items) ≡ map entry_text items
items_pieces [] = refl
items_pieces (e ∷ es) = ap₂ (λ (x : List ℕ) (xs : List (List ℕ)). x ∷ xs) (entry_pieces e) (items_pieces es)

pub folder_data-text : (items : List Entry) → compact_text (folder_data items) ≡ folder_text items
folder_data-text items =
    object_text (member (codes "@context") (string context) (member (codes "items") (object (items_data items)) no_members))
    ∙ ap (λ s. braced (member_text (codes "@context") (quoted context) ∷ member_text (codes "items") s ∷ []))
    (object_text (items_data items) ∙ ap braced (items_pieces items))
