-- The text of a folder description: compact JSON, keys in byte order (draft-dejong-remotestorage,
-- section 4).
use Rattle.std.specs.Prelude.{ℕ, List, [], ◌∷◌, ◌++◌, map, Option, Some, None, codes, decimal}
use Rattle.std.specs.List.{flat_map}
use Rattle.json.specs.Print.{quoted}
use Rattle.rs_path.specs.declared.entry.Entry.{Entry}
use Rattle.rs_path.specs.Items.{entry_key}

-- the key in quotes, a colon and the value
abbrev pub member_text : List ℕ → List ℕ → List ℕ
member_text key value = quoted key ++ 58 ∷ value

-- the members between braces, parted by commas
abbrev pub with_commas : List (List ℕ) → List ℕ
with_commas [] = []
with_commas (member ∷ members) = member ++ flat_map (λ other. 44 ∷ other) members

abbrev pub braced : List (List ℕ) → List ℕ
braced members = 123 ∷ (with_commas members ++ 125 ∷ [])

-- `"Content-Length":N`, where the length is known
abbrev pub length_members : Option ℕ → List (List ℕ)
length_members None = []
length_members (Some n) = member_text (codes "Content-Length") (decimal n) ∷ []

-- `"Content-Type":"TYPE"`, where the content type is known
abbrev pub kind_members : Option (List ℕ) → List (List ℕ)
kind_members None = []
kind_members (Some kind) = member_text (codes "Content-Type") (quoted kind) ∷ []

-- `"ETag":"TAG"`
abbrev pub tag_members : List ℕ → List (List ℕ)
tag_members tag = member_text (codes "ETag") (quoted tag) ∷ []

-- `"KEY":{..}`, with `/` at the end of a folder's key
abbrev pub entry_text : Entry → List ℕ
entry_text entry = member_text (entry_key entry)
    (braced (length_members entry.length ++ (kind_members entry.kind ++ tag_members entry.tag)))

abbrev pub context : List ℕ
context = codes "http://remotestorage.io/spec/folder-description"

-- `{"@context":"http://remotestorage.io/spec/folder-description","items":{..}}`
abbrev pub folder_text : List Entry → List ℕ
folder_text items = braced (member_text (codes "@context") (quoted context)
    ∷ member_text (codes "items") (braced (map entry_text items)) ∷ [])
