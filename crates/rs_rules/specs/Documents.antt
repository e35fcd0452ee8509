-- The documents of a history.
use Rattle.std.specs.Prelude.{ℕ, Bool, not, List, [], ◌∷◌, ◌++◌, length, Option, filter, find, sum_by, option_map}
use Rattle.std.specs.List.{list_any}
use Rattle.rs_path.specs.Paths.{Path, same_path}
use Rattle.rs_path.specs.Below.{is_below}
use Rattle.rs_record.specs.declared.records.Record.{Record}
use Rattle.rs_record.specs.declared.records.Record.TheVariants.{Put, Remove, Grant, Revoke}
use Rattle.rs_rules.specs.declared.doc.Doc.{Doc}
use Rattle.rs_rules.specs.declared.placed.Placed.{Placed}
use Rattle.rs_rules.specs.Histories.{History, replay}

-- the documents at other paths
abbrev pub others : Path → List Placed → List Placed
others path docs = filter (λ (d : Placed). not (same_path path d.path)) docs

-- a document at its path
abbrev pub placed_document : ℕ → Path → List ℕ → List ℕ → Placed
placed_document n path kind body = record { path = path; doc = record { version = n; kind = kind; body = body } }

-- the documents after record n: a Put replaces what stood at its path, a Remove takes it away
-- (draft-dejong-remotestorage, section 6)
abbrev pub docs_after : ℕ → Record → List Placed → List Placed
docs_after n (Put path kind body writer) docs = others path docs ++ placed_document n path kind body ∷ []
docs_after n (Remove path writer) docs = others path docs
docs_after n (Grant token scopes) docs = docs
docs_after n (Revoke token) docs = docs

-- the documents of a history, in the order of their numbers: at each path what its last Put or Remove left
abbrev pub docs : History → List Placed
docs h = replay docs_after h.base.cut h.base.docs h.entries

-- the document at the path, if one is there
abbrev pub doc_in : Path → List Placed → Option Doc
doc_in path docs = option_map (λ (d : Placed). d.doc) (find (λ (d : Placed). same_path path d.path) docs)

-- the document of the history at the path
abbrev pub doc_at : History → Path → Option Doc
doc_at h path = doc_in path (docs h)

-- a document lies below the folder
abbrev pub has_below : Path → List Placed → Bool
has_below folder docs = list_any (λ (d : Placed). is_below folder d.path) docs

-- the sum of the lengths of the bodies, in bytes
abbrev pub live_in : List Placed → ℕ
live_in docs = sum_by (λ (d : Placed). length d.doc.body) docs
