-- Of the keys at which no item is, the first is refused.
use Rattle.std.proofs.Common.{◌≡◌, ℕ, List, [], ◌∷◌, ◌++◌, Option, Some, None, Result, Ok, Err, refl, ap}
use Rattle.serde_json.specs.Data.{Data, Members, no_members, member}
use Rattle.rs_path.specs.declared.entry.Entry.{Entry}
use Rattle.rs_folder.specs.declared.folder_fault.FolderFault.{FolderFault}
use Rattle.rs_folder.specs.declared.folder_fault.FolderFault.TheVariants.{BadItem}
use Rattle.rs_folder.specs.FolderReadings.{entry_reading, after_entry, items_from}
use Rattle.rs_folder.specs.Keys.{wrong_keys}

abbrev First : List ℕ → Members → Type 0
First key ms = (others : List (List ℕ)) × (wrong_keys ms ≡ key ∷ others)

abbrev Refused : List ℕ → Result (List Entry) FolderFault
Refused key = Err (BadItem key)

same_key : (key other : List ℕ) → Refused key ≡ Refused other → key ≡ other
same_key key other is = cc

refused_by : (o : Option Entry) (items : List Entry) (key : List ℕ) (value : Data) (ms : Members) (named : List ℕ) → entry_reading key value ≡ o
    → after_entry o key (λ item. items_from (items ++ item ∷ []) ms) ≡ Err (BadItem named)
    → ((all : List Entry) → items_from all ms ≡ Err (BadItem named) → First named ms) → First named (member key value ms)
refused_by None items key value ms named at is later = (wrong_keys ms, rw at (ap (λ k. k ∷ wrong_keys ms) (same_key key named is)))
refused_by (Some item) items key value ms named at is later = let found = later (items ++ item ∷ []) is in (found.0, rw at found.1)

pub refused_first : (items : List Entry) (ms : Members) (key : List ℕ) → items_from items ms ≡ Err (BadItem key) → First key ms
refused_first items no_members key is = absurd cc
refused_first items (member own value ms) key is =
    refused_by (entry_reading own value) items own value ms key refl is (λ all. refused_first all ms key)

read_by : (o : Option Entry) (items all : List Entry) (key : List ℕ) (value : Data) (ms : Members) → entry_reading key value ≡ o
    → after_entry o key (λ item. items_from (items ++ item ∷ []) ms) ≡ Ok all → ((front : List Entry) → items_from front ms ≡ Ok all → wrong_keys ms ≡ [])
    → wrong_keys (member key value ms) ≡ []
read_by None items all key value ms at is later = absurd cc
read_by (Some item) items all key value ms at is later = rw at (later (items ++ item ∷ []) is)

pub read_all : (items all : List Entry) (ms : Members) → items_from items ms ≡ Ok all → wrong_keys ms ≡ []
read_all items all no_members is = refl
read_all items all (member key value ms) is = read_by (entry_reading key value) items all key value ms refl is (λ front. read_all front all ms)
