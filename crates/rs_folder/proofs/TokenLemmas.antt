-- A folder description as tokens is that of its value.
use Rattle.std.proofs.Common.{◌≡◌, ℕ, List, [], ◌∷◌, ◌++◌, Option, Some, None, refl, sym, ap, ◌∙◌, append_assoc}
use Rattle.std.specs.List.{flat_map}
use Rattle.json.specs.Token.{begin_object, end_object, key}
use Rattle.json.specs.Print.{print}
use Rattle.json.specs.Tree.{json_tokens, members_tokens}
use Rattle.serde_json.specs.Written.{outline, members_outline}
use Rattle.serde_json.proofs.Texts.{print-outline}
use Rattle.rs_path.specs.declared.entry.Entry.{Entry}
use Rattle.rs_path.specs.Items.{entry_key}
use Rattle.rs_folder.specs.Descriptions.{folder_text}
use Rattle.rs_folder.proofs.FolderData.{tag_data, kind_data, length_data, items_data, folder_data}
use Rattle.rs_folder.specs.FolderTokens.{length_tokens, kind_tokens, tag_tokens, entry_tokens, opening_tokens, folder_tokens}
use Rattle.rs_folder.proofs.TextLemmas.{folder_data-text}

parts_tokens : (length : Option ℕ) (kind : Option (List ℕ)) (tag : List ℕ)
    → members_tokens (members_outline (length_data length (kind_data kind (tag_data tag)))) ≡ length_tokens length ++ (kind_tokens kind ++ (tag_tokens tag ++ end_object ∷ []))
parts_tokens None None tag = refl
parts_tokens None (Some kind) tag = refl
parts_tokens (Some n) None tag = refl
parts_tokens (Some n) (Some kind) tag = refl

items_tokens : (items : List Entry) → members_tokens (members_outline (items_data items)) ≡ flat_map entry_tokens items ++ end_object ∷ []
items_tokens [] = refl
items_tokens (e ∷ es) =
    ap (λ ts. key (entry_key e) ∷ begin_object ∷ (ts ++ members_tokens (members_outline (items_data es)))) (parts_tokens e.length e.kind e.tag)
    ∙ ap (λ ts. entry_tokens e ++ ts) (items_tokens es)
    ∙ sym (append_assoc (entry_tokens e) (flat_map entry_tokens es) (end_object ∷ []))

data_tokens : (items : List Entry) → json_tokens (outline (folder_data items)) ≡ folder_tokens items
data_tokens items =
    ap (λ ts. opening_tokens ++ (ts ++ end_object ∷ [])) (items_tokens items)
    ∙ ap (λ ts. opening_tokens ++ ts) (append_assoc (flat_map entry_tokens items) (end_object ∷ []) (end_object ∷ []))

pub folder_tokens-text : (items : List Entry) → print (folder_tokens items) ≡ folder_text items
folder_tokens-text items = ap print (sym (data_tokens items)) ∙ print-outline (folder_data items) ∙ folder_data-text items
