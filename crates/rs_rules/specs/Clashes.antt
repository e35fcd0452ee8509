-- Where a document has no place: at a folder's path or below a document, and in a folder that is full.
use Rattle.std.specs.Prelude.{ℕ, Bool, ◌==◌, nat_lt, List, [], ◌∷◌, ◌++◌, length, take, Option, Some, None, is_some, if◌then◌else◌}
use Rattle.std.specs.Option.{option_or}
use Rattle.rs_path.specs.Paths.{Path, folder_at, document_at}
use Rattle.rs_rules.specs.declared.placed.Placed.{Placed}
use Rattle.rs_rules.specs.Limits.{max_items}
use Rattle.rs_rules.specs.Documents.{doc_in, has_below}
use Rattle.rs_rules.specs.Contents.{paths_in}
use Rattle.rs_rules.specs.Listings.{children}

-- the number of names of the first proper front of `done` and the names that passes the test and has all of `done`
abbrev pub first_front : (List (List ℕ) → Bool) → List (List ℕ) → List (List ℕ) → Option ℕ
first_front test done [] = None
first_front test done (n ∷ ns) = if test done then Some (length done) else first_front test (done ++ n ∷ []) ns

-- a document stands at these names
abbrev pub has_document : List Placed → List (List ℕ) → Bool
has_document docs names = is_some (doc_in (document_at names) docs)

-- the number of names of the first document that the path would be below
abbrev pub first_document : List Placed → List (List ℕ) → Option ℕ
first_document docs [] = None
first_document docs (n ∷ ns) = first_front (has_document docs) (n ∷ []) ns

-- the number of names of what a document at the path clashes with: of a document that it would be below, or its own
-- where they are those of a folder that isn't empty
abbrev pub clash_in : List Placed → Path → Option ℕ
clash_in docs path =
    option_or (first_document docs path.names) (if has_below (folder_at path.names) docs then Some (length path.names) else None)

-- the path that clashes, by its number of names
abbrev pub clash_at : Path → ℕ → Path
clash_at path count = if count == length path.names then folder_at path.names else document_at (take count path.names)

-- with a document at the path, the folder at these names would have too many items
abbrev pub is_full : List Placed → Path → List (List ℕ) → Bool
is_full docs path names = nat_lt max_items (length (children (folder_at names) (paths_in docs ++ path ∷ [])))

-- the number of names of the first folder, from `/` down, that has no room for a document at the path
abbrev pub full_in : List Placed → Path → Option ℕ
full_in docs path = first_front (is_full docs path) [] path.names
