-- Items in order.
use Rattle.std.proofs.Common.{◌≡◌, Bool, true, List, [], ◌∷◌, ◌++◌, All, refl}
use Rattle.std.specs.List.{list_all}
use Rattle.std.proofs.lemmas.Bool.{and_parts, and_from}
use Rattle.std.proofs.lemmas.List.Elements.{All-head, All-tail}
use Rattle.rs_path.specs.declared.entry.Entry.{Entry}
use Rattle.rs_path.specs.Items.{comes_before, is_entry, is_item, is_ascending}

list_all-push : (test : Entry → Bool) (entries : List Entry) (item : Entry) → list_all test entries ≡ true → test item ≡ true
    → list_all test (entries ++ item ∷ []) ≡ true
list_all-push test [] item all last = and_from _ _ last refl
list_all-push test (entry ∷ entries) item all last =
    let parts = and_parts (test entry) (list_all test entries) all in
    and_from _ _ parts.0 (list_all-push test entries item parts.1 last)

-- an item behind all others keeps the order
pub is_ascending-push : (entries : List Entry) (item : Entry) → is_ascending entries ≡ true → All (λ entry. comes_before entry item ≡ true) entries
    → is_ascending (entries ++ item ∷ []) ≡ true
is_ascending-push [] item order above = refl
is_ascending-push (entry ∷ entries) item order above =
    let Before : Entry → Type 0 = λ entry. comes_before entry item ≡ true in
    let parts = and_parts (list_all (comes_before entry) entries) (is_ascending entries) order in
    and_from _ _ (list_all-push (comes_before entry) entries item parts.0 (All-head Before entry entries above))
    (is_ascending-push entries item parts.1 (All-tail Before entry entries above))

pub is_item-push : (entries : List Entry) (item : Entry) → list_all is_item entries ≡ true → is_item item ≡ true → list_all is_item (entries ++ item ∷ []) ≡ true
is_item-push = list_all-push is_item

pub is_entry-push : (entries : List Entry) (item : Entry) → list_all is_entry entries ≡ true → is_entry item ≡ true → list_all is_entry (entries ++ item ∷ []) ≡ true
is_entry-push = list_all-push is_entry
