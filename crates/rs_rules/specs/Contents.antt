-- What a tree knows of a history: its documents and its versions.
use Rattle.std.specs.Prelude.{ℕ, List, [], map, if◌then◌else◌}
use Rattle.rs_path.specs.Paths.{Path}
use Rattle.rs_record.specs.declared.records.Record.{Record}
use Rattle.rs_rules.specs.declared.placed.Placed.{Placed}
use Rattle.rs_rules.specs.Histories.{History}
use Rattle.rs_rules.specs.Documents.{docs, docs_after, doc_in}
use Rattle.rs_rules.specs.Versions.{writes_below, is_there, doc_version, ver}

-- documents in the order of their numbers, and the version of each path
pub record Contents : Type 0 where
  pub docs : List Placed
  pub version : Path → ℕ

-- what stands in no history
abbrev pub no_contents : Contents
no_contents = record { docs = []; version = λ path. 0 }

-- the contents of a history
abbrev pub contents : History → Contents
contents h = record { docs = docs h; version = λ path. ver h path }

-- the version of a path after record n, from the documents after it and the version before it: a write gives its number to
-- its document and to every folder above that is left with documents, and to no other path
abbrev pub version_after : ℕ → Record → List Placed → Path → ℕ → ℕ
version_after n what docs path old =
    if path.folder then (if writes_below path what then (if is_there path docs then n else 0) else old)
    else doc_version (doc_in path docs)

-- the contents after record n
abbrev pub contents_after : ℕ → Record → Contents → Contents
contents_after n what w = record {
  docs = docs_after n what w.docs;
  version = λ path. version_after n what (docs_after n what w.docs) path (w.version path);
}

-- the paths of documents
abbrev pub paths_in : List Placed → List Path
paths_in docs = map (λ (d : Placed). d.path) docs
