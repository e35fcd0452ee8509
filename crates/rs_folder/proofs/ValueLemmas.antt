-- The text of a folder description is read as its value.
use Rattle.std.proofs.Common.{◌≡◌, ℕ, ◌^◌, ◌≤◌, true, List, [], ◌∷◌, ◌++◌, Option, Some, None, option_and_then, refl, sym, ap, ◌∙◌, arith, append_assoc, append-nil, ltb-true}
use Rattle.std.specs.List.{list_all}
use Rattle.std.proofs.lemmas.Bool.{and_parts}
use Rattle.json.specs.Json as json
use Rattle.json.specs.Lex.{tokens}
use Rattle.json.specs.Print.{print}
use Rattle.json.specs.Token.{Token}
use Rattle.json.specs.Tree as tree
use Rattle.json.proofs.Printed.Tokens.{tokens-print}
use Rattle.json.proofs.Printed.Trees.{value-json_tokens, ArePrintable-json_tokens}
use Rattle.json.proofs.Printed.Decimals.{IsNumber-decimal}
use Rattle.serde_json.specs.Data.{Data, no_members}
use Rattle.serde_json.specs.Read.{read, of_json, of_members, max_depth}
use Rattle.serde_json.specs.Written.{outline, members_outline}
use Rattle.serde_json.proofs.Numbers.{number_of-decimal}
use Rattle.serde_json.proofs.Texts.{print-outline}
use Rattle.rs_path.specs.declared.entry.Entry.{Entry}
use Rattle.rs_path.specs.Items.{is_ascending, holds_of, is_u64, is_entry}
use Rattle.rs_folder.specs.Descriptions.{folder_text}
use Rattle.rs_folder.proofs.FolderData.{tag_data, kind_data, length_data, items_data, folder_data}
use Rattle.rs_folder.proofs.DataLemmas.{put_behind}
use Rattle.rs_folder.proofs.PartLemmas.{HasParts-from}
use Rattle.rs_folder.proofs.TextLemmas.{folder_data-text}

-- ---- one item

parts_numbers : (length : Option ℕ) (kind : Option (List ℕ)) (tag : List ℕ) → holds_of is_u64 length ≡ true
    → tree.MembersHaveNumbers (members_outline (length_data length (kind_data kind (tag_data tag))))
parts_numbers None None tag is = (tt, tt)
parts_numbers None (Some kind) tag is = (tt, (tt, tt))
parts_numbers (Some n) None tag is = (IsNumber-decimal n (ltb-true n (2 ^ 64) is), (tt, tt))
parts_numbers (Some n) (Some kind) tag is = (IsNumber-decimal n (ltb-true n (2 ^ 64) is), (tt, (tt, tt)))

parts_depth : (length : Option ℕ) (kind : Option (List ℕ)) (tag : List ℕ) → tree.members_depth (members_outline (length_data length (kind_data kind (tag_data tag)))) ≡ 0
parts_depth None None tag = refl
parts_depth None (Some kind) tag = refl
parts_depth (Some n) None tag = refl
parts_depth (Some n) (Some kind) tag = refl

parts_read : (length : Option ℕ) (kind : Option (List ℕ)) (tag : List ℕ) → holds_of is_u64 length ≡ true
    → of_members (members_outline (length_data length (kind_data kind (tag_data tag)))) no_members ≡ Some (length_data length (kind_data kind (tag_data tag)))
parts_read None None tag is = refl
parts_read None (Some kind) tag is = refl
parts_read (Some n) None tag is = rw (number_of-decimal n (ltb-true n (2 ^ 64) is)) refl
parts_read (Some n) (Some kind) tag is = rw (number_of-decimal n (ltb-true n (2 ^ 64) is)) refl

-- ---- all items

items_numbers : (items : List Entry) → list_all is_entry items ≡ true → tree.MembersHaveNumbers (members_outline (items_data items))
items_numbers [] all = tt
items_numbers (e ∷ es) all =
    let parts = and_parts (is_entry e) (list_all is_entry es) all in
    (parts_numbers e.length e.kind e.tag (HasParts-from e parts.0).length, items_numbers es parts.1)

items_depth : (items : List Entry) → tree.members_depth (members_outline (items_data items)) ≤ 1
items_depth [] = omega arith
items_depth (e ∷ es) = omega (arith, parts_depth e.length e.kind e.tag, items_depth es)

items_read : (done items : List Entry) → is_ascending (done ++ items) ≡ true → list_all is_entry items ≡ true
    → of_members (members_outline (items_data items)) (items_data done) ≡ Some (items_data (done ++ items))
items_read done [] ascending all = ap (λ es. Some (items_data es)) (sym (append-nil done))
items_read done (e ∷ es) ascending all =
    let parts = and_parts (is_entry e) (list_all is_entry es) all in
    let split = append_assoc done (e ∷ []) es in
    rw (parts_read e.length e.kind e.tag (HasParts-from e parts.0).length)
    (ap (of_members (members_outline (items_data es))) (put_behind done e es ascending)
    ∙ items_read (done ++ e ∷ []) es (ap is_ascending split ∙ ascending) parts.1 ∙ ap (λ xs. Some (items_data xs)) split)

-- ---- the description

folder_read : (items : List Entry) → is_ascending items ≡ true → list_all is_entry items ≡ true → of_json (outline (folder_data items)) ≡ Some (folder_data items)
folder_read items ascending all = rw (items_read [] items ascending all) refl

folder_numbers : (items : List Entry) → list_all is_entry items ≡ true → tree.HasNumbers (outline (folder_data items))
folder_numbers items all = (tt, (items_numbers items all, tt))

folder_depth : (items : List Entry) → tree.depth (outline (folder_data items)) ≤ max_depth
folder_depth items = omega (arith, items_depth items)

abbrev whole : Option (json.Json × List Token) → Option Data
whole o = option_and_then of_json (option_and_then (λ p. json.if_last p.0 p.1) o)

pub read-folder_text : (items : List Entry) → is_ascending items ≡ true → list_all is_entry items ≡ true → read (folder_text items) ≡ Some (folder_data items)
read-folder_text items ascending all =
    let j = outline (folder_data items) in
    let text : folder_text items ≡ print (tree.json_tokens j) = sym (print-outline (folder_data items) ∙ folder_data-text items) in
    let same : tokens (folder_text items) ≡ tree.json_tokens j ++ [] =
    ap tokens text ∙ tokens-print (tree.json_tokens j) (ArePrintable-json_tokens j (folder_numbers items all)) ∙ sym (append-nil (tree.json_tokens j)) in
    ap whole (ap (json.value max_depth) same ∙ value-json_tokens j max_depth [] (folder_depth items)) ∙ folder_read items ascending all
