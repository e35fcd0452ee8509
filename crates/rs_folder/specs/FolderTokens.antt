-- A folder description as tokens of JSON.
use Rattle.std.specs.Prelude.{ℕ, List, [], ◌∷◌, ◌++◌, Option, Some, None, codes, decimal}
use Rattle.std.specs.List.{flat_map}
use Rattle.json.specs.Token.{Token, begin_object, end_object, key, string, number}
use Rattle.rs_path.specs.declared.entry.Entry.{Entry}
use Rattle.rs_path.specs.Items.{entry_key}
use Rattle.rs_folder.specs.Descriptions.{context}

abbrev pub length_tokens : Option ℕ → List Token
length_tokens None = []
length_tokens (Some n) = key (codes "Content-Length") ∷ number (decimal n) ∷ []

abbrev pub kind_tokens : Option (List ℕ) → List Token
kind_tokens None = []
kind_tokens (Some kind) = key (codes "Content-Type") ∷ string kind ∷ []

abbrev pub tag_tokens : List ℕ → List Token
tag_tokens tag = key (codes "ETag") ∷ string tag ∷ []

-- an item at its key
abbrev pub entry_tokens : Entry → List Token
entry_tokens entry = key (entry_key entry) ∷ begin_object ∷ (length_tokens entry.length ++ (kind_tokens entry.kind ++ (tag_tokens entry.tag ++ end_object ∷ [])))

-- up to the first item
abbrev pub opening_tokens : List Token
opening_tokens = begin_object ∷ key (codes "@context") ∷ string context ∷ key (codes "items") ∷ begin_object ∷ []

-- behind the last
abbrev pub closing_tokens : List Token
closing_tokens = end_object ∷ end_object ∷ []

abbrev pub folder_tokens : List Entry → List Token
folder_tokens items = opening_tokens ++ (flat_map entry_tokens items ++ closing_tokens)
