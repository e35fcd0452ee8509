-- What holds of the documents and versions of every lawful history.
use Rattle.std.specs.Prelude.{◌≡◌, ◌<◌, ◌≤◌, Bool, true, not, ◌&&◌, List, [], ◌∷◌}
use Rattle.std.specs.List.{list_all}
use Rattle.rs_path.specs.Paths.{Path, same_path}
use Rattle.rs_rules.specs.declared.placed.Placed.{Placed}
use Rattle.rs_rules.specs.Histories.{Base}
use Rattle.rs_rules.specs.Documents.{has_below}

-- no path has two documents
abbrev pub are_distinct : List Placed → Bool
are_distinct [] = true
are_distinct (d ∷ ds) = list_all (λ (e : Placed). not (same_path d.path e.path)) ds && are_distinct ds

abbrev pub AreDistinct : List Placed → Type 0
AreDistinct docs = are_distinct docs ≡ true

-- each document stands at the path of a document
abbrev pub are_documents : List Placed → Bool
are_documents docs = list_all (λ (d : Placed). not d.path.folder) docs

-- a base's folder versions are at most its cut, and a folder with a document below it has one greater than 0
pub record HasVersions (b : Base) : Type 0 where
  pub small : (folder : Path) → b.versions folder ≤ b.cut
  pub there : (folder : Path) → has_below folder b.docs ≡ true → 0 < b.versions folder
