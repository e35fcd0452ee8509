-- The versions of documents and folders.
use Rattle.std.specs.Prelude.{ℕ, Bool, false, ◌||◌, List, Option, Some, None, if◌then◌else◌}
use Rattle.rs_path.specs.Paths.{Path, is_root}
use Rattle.rs_path.specs.Below.{is_below}
use Rattle.rs_record.specs.declared.records.Record.{Record}
use Rattle.rs_record.specs.declared.records.Record.TheVariants.{Put, Remove, Grant, Revoke}
use Rattle.rs_rules.specs.declared.doc.Doc.{Doc}
use Rattle.rs_rules.specs.declared.placed.Placed.{Placed}
use Rattle.rs_rules.specs.Histories.{History, replay}
use Rattle.rs_rules.specs.Documents.{docs, doc_in, has_below}

-- the record puts or removes a document below the folder
abbrev pub writes_below : Path → Record → Bool
writes_below folder (Put path kind body writer) = is_below folder path
writes_below folder (Remove path writer) = is_below folder path
writes_below folder (Grant token scopes) = false
writes_below folder (Revoke token) = false

-- the greatest number of an entry that puts or removes a document below the folder, or what the base has
abbrev pub last_below : History → Path → ℕ
last_below h folder =
    replay (λ n what last. if writes_below folder what then n else last) h.base.cut (h.base.versions folder) h.entries

-- the folder is there: it is `/`, or a document lies below it (draft-dejong-remotestorage, section 4)
abbrev pub is_there : Path → List Placed → Bool
is_there folder docs = is_root folder || has_below folder docs

-- the version of a folder: it changes with everything below it (draft-dejong-remotestorage, section 4; the numbers are own)
abbrev pub folder_version : History → Path → ℕ
folder_version h folder = if is_there folder (docs h) then last_below h folder else 0

-- the version of a document that may be there
abbrev pub doc_version : Option Doc → ℕ
doc_version None = 0
doc_version (Some doc) = doc.version

-- the version of a path: of a document the number of the entry that put it, and 0 where nothing is there
abbrev pub ver : History → Path → ℕ
ver h path = if path.folder then folder_version h path else doc_version (doc_in path (docs h))
