-- The members of an object, read one after another, and what that is of a whole text.
use Rattle.std.proofs.Common.{◌≡◌, ℕ, Bool, true, false, List, [], ◌∷◌, ◌++◌, Some, None, Err, String, Global, string_bytes, Less, string_cmp, nat_cmp, IsUtf8, refl, sym, ap, ◌∙◌, subst}
use Rattle.std.specs.List.{All, AllByRecursion}
use Rattle.std.specs.List.Sorted.{IsStrictlySortedBy}
use Rattle.std.specs.Map.{keys_of}
use Rattle.std.specs.Ordering.{is_lt}
use Rattle.std.specs.Cmp.Lexicographic.{slice_cmp}
use Rattle.std.proofs.lemmas.List.Elements.{All-nil, All-push, All-weaker}
use Rattle.std.specs.Str.{is_utf8}
use Rattle.std.proofs.lemmas.Str.{IsUtf8-from_is_utf8, is_utf8-from_IsUtf8}
use Rattle.serde_json.specs.Data.{Data}
use Rattle.serde_json.specs.Read.{read}
use Rattle.serde_json.specs.View.{view, members_view}
use Rattle.serde_json.specs.declared.value.Value.{Value}
use Rattle.rs_path.specs.declared.entry.Entry.{Entry}
use Rattle.rs_path.specs.Items.{entry_key, comes_before}
use Rattle.rs_folder.specs.declared.folder_fault.FolderFault.TheVariants.{NotJson}
use Rattle.rs_folder.specs.FolderReadings.{entry_reading, items_from, value_reading, folder_reading}

abbrev pub Member : Type 0
Member = String Global × Value

-- the item's key is below those of the members
abbrev pub IsBelow : List Member → Entry → Type 0
IsBelow rest item = AllByRecursion (λ (key : String Global). slice_cmp nat_cmp (entry_key item) (string_bytes key) ≡ Less) (keys_of rest)

-- the items' keys are below those of the members, which ascend
pub record Ascend (items : List Entry) (rest : List Member) : Type 0 where
  pub below : All (IsBelow rest) items
  pub sorted : IsStrictlySortedBy string_cmp (keys_of rest)

pub Ascend-first : (rest : List Member) → IsStrictlySortedBy string_cmp (keys_of rest) → Ascend [] rest
Ascend-first rest sorted = record { below = All-nil (IsBelow rest); sorted = sorted }

-- an item with the key of the first member is above all items
pub above_items : (items : List Entry) (m : Member) (rest : List Member) (item : Entry) → Ascend items (m ∷ rest) → entry_key item ≡ string_bytes m.0
    → All (λ entry. comes_before entry item ≡ true) items
above_items items m rest item ascend same =
    All-weaker (IsBelow (m ∷ rest)) (λ entry. comes_before entry item ≡ true)
    (λ entry below. ap (λ key. is_lt (slice_cmp nat_cmp (entry_key entry) key)) same ∙ ap is_lt below.0) items ascend.below

-- and below the other members
pub Ascend-next : (items : List Entry) (m : Member) (rest : List Member) (item : Entry) → Ascend items (m ∷ rest) → entry_key item ≡ string_bytes m.0
    → Ascend (items ++ item ∷ []) rest
unfolding IsStrictlySortedBy
Ascend-next items m rest item ascend same =
    let own : IsBelow rest item =
    subst (λ key. AllByRecursion (λ (k : String Global). slice_cmp nat_cmp key (string_bytes k) ≡ Less) (keys_of rest)) (sym same) ascend.sorted.0 in
    record {
      below = All-push (IsBelow rest) items item (All-weaker (IsBelow (m ∷ rest)) (IsBelow rest) (λ entry below. below.1) items ascend.below) own;
      sorted = ascend.sorted.1;
    }

-- the item of the first member comes next
pub items_from-next : (items : List Entry) (m : Member) (rest : List Member) (item : Entry) → entry_reading (string_bytes m.0) (view m.1) ≡ Some item
    → items_from items (members_view (m ∷ rest)) ≡ items_from (items ++ item ∷ []) (members_view rest)
items_from-next items m rest item is = rw is refl

-- bytes that are a value of JSON
pub folder_reading-value : (bytes : List ℕ) (value : Data) → IsUtf8 bytes → read bytes ≡ Some value → folder_reading bytes ≡ value_reading (Some value)
folder_reading-value bytes value text is = rw (is_utf8-from_IsUtf8 bytes text, is) refl

refused_by : (bytes : List ℕ) (text : Bool) → is_utf8 bytes ≡ text → (IsUtf8 bytes → read bytes ≡ None) → folder_reading bytes ≡ Err NotJson
refused_by bytes true is none = rw (is, none (IsUtf8-from_is_utf8 bytes is)) refl
refused_by bytes false is none = rw is refl

-- bytes that are none
pub folder_reading-none : (bytes : List ℕ) → (IsUtf8 bytes → read bytes ≡ None) → folder_reading bytes ≡ Err NotJson
folder_reading-none bytes none = refused_by bytes (is_utf8 bytes) refl none
