-- Items of a folder.
use Rattle.std.specs.Prelude.{ℕ, ◌^◌, Bool, true, not, ◌&&◌, ◌||◌, nat_lt, List, [], ◌∷◌, Option, Some, None, is_none}
use Rattle.std.specs.List.{list_all}
use Rattle.std.specs.Ordering.{nat_cmp, is_lt}
use Rattle.std.specs.Cmp.Lexicographic.{slice_cmp}
use Rattle.rs_path.specs.declared.entry.Entry.{Entry}
use Rattle.rs_path.specs.Keys.{key_text}
use Rattle.rs_path.specs.Kinds.{is_kind}
use Rattle.rs_path.specs.Names.{is_name}
use Rattle.rs_path.specs.Tags.{is_tag}

-- the key of an item: its name, with `/` at the end of a folder's
abbrev pub entry_key : Entry → List ℕ
entry_key entry = key_text entry.name entry.folder

-- the first key is smaller than the second, byte by byte
abbrev pub comes_before : Entry → Entry → Bool
comes_before first second = is_lt (slice_cmp nat_cmp (entry_key first) (entry_key second))

-- a folder's entry has neither kind nor length
abbrev pub is_item : Entry → Bool
is_item entry = not entry.folder || (is_none entry.kind && is_none entry.length)

-- the test holds of what is there
abbrev pub holds_of : {X : Type 0} → (X → Bool) → Option X → Bool
holds_of test None = true
holds_of test (Some x) = test x

-- a number that a u64 holds
abbrev pub is_u64 : ℕ → Bool
is_u64 n = nat_lt n (2 ^ 64)

-- each part of the item is what its type promises
abbrev pub is_entry : Entry → Bool
is_entry entry = is_name entry.name && is_tag entry.tag && holds_of is_kind entry.kind && holds_of is_u64 entry.length

-- each key is greater than those before it
abbrev pub is_ascending : List Entry → Bool
is_ascending [] = true
is_ascending (entry ∷ entries) = list_all (comes_before entry) entries && is_ascending entries
