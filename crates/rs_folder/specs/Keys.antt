-- The keys of an object.
use Rattle.std.specs.Prelude.{ℕ, Bool, true, ◌&&◌, List, [], ◌∷◌, is_none, if◌then◌else◌}
use Rattle.std.specs.Ordering.{nat_cmp, is_lt}
use Rattle.std.specs.Cmp.Lexicographic.{slice_cmp}
use Rattle.serde_json.specs.Data.{Members, no_members, member}
use Rattle.rs_folder.specs.FolderReadings.{entry_reading}

-- the key comes before those of the members, byte by byte
abbrev pub is_before : List ℕ → Members → Bool
is_before key no_members = true
is_before key (member other value members) =
    is_lt (slice_cmp nat_cmp key other) && is_before key members

-- each key comes before those after it
abbrev pub keys_ascend : Members → Bool
keys_ascend no_members = true
keys_ascend (member key value members) = is_before key members && keys_ascend members

-- the keys at which no item is
abbrev pub wrong_keys : Members → List (List ℕ)
wrong_keys no_members = []
wrong_keys (member key value members) =
    if is_none (entry_reading key value) then key ∷ wrong_keys members else wrong_keys members
