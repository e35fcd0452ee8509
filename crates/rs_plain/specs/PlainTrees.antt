-- What a plain tree shows and what it stands for.
use Rattle.std.specs.Prelude.{◌≡◌, ◌<◌, ◌^◌, ℕ, Bool, true, false, not, List, fold, filter, if◌then◌else◌}
use Rattle.std.proofs.Common.{ap, sym, ◌∙◌}
use Rattle.std.proofs.lemmas.Bool.{cond-false}
use Rattle.std.specs.List.{list_all, list_any}
use Rattle.rs_path.specs.Paths.{Path, same_path}
use Rattle.rs_path.specs.Below.{is_below}
use Rattle.rs_rules.specs.declared.placed.Placed.{Placed}
use Rattle.rs_rules.specs.Documents.{doc_in, live_in}
use Rattle.rs_rules.specs.Versions.{is_there, doc_version}
use Rattle.rs_rules.specs.Contents.{Contents}
use Rattle.rs_rules.specs.Sound.{are_distinct, AreDistinct}
use Rattle.rs_plain.specs.declared.room.Room.{Room}
use Rattle.rs_plain.specs.declared.write.Write.{Write}

-- the number of the last write below the folder, or 0
abbrev pub last_write : Path → List Write → ℕ
last_write folder writes = fold (λ last (write : Write). if is_below folder write.path then write.number else last) 0 writes

-- the version of a path
abbrev pub version_in : List Placed → List Write → Path → ℕ
version_in docs writes path =
    if path.folder then (if is_there path docs then last_write path writes else 0) else doc_version (doc_in path docs)

-- what documents and the last write of each path show
abbrev pub contents_in : List Placed → List Write → Contents
contents_in docs writes = record { docs = docs; version = λ path. version_in docs writes path }

-- the writes of other paths
abbrev pub other_writes : Path → List Write → List Write
other_writes path writes = filter (λ (write : Write). not (same_path path write.path)) writes

-- the path was written
abbrev pub is_written : List Write → Path → Bool
is_written writes path = list_any (λ (write : Write). same_path path write.path) writes

-- the path of each document was written
abbrev pub are_written : List Placed → List Write → Bool
are_written docs writes = list_all (λ (d : Placed). is_written writes d.path) docs

-- documents and writes that stand for contents
pub record ListsStandFor (docs : List Placed) (writes : List Write) (w : Contents) : Type 0 where
  pub same : w ≡ contents_in docs writes
  pub distinct : are_distinct docs ≡ true
  pub written : are_written docs writes ≡ true
  pub live : live_in docs < 2 ^ 64

-- copies of what a Put brings, and room for it
pub record IsRoomFor (docs_len docs_room writes_len writes_room : ℕ) (room : Room) (at : Path) (of : List ℕ) (text : List ℕ) : Type 0 where
  pub path : room.path ≡ at
  pub written : room.written ≡ at
  pub kind : room.kind ≡ of
  pub body : room.body ≡ text
  pub docs : docs_len < docs_room
  pub writes : writes_len < writes_room

pub stands_distinct : (docs : List Placed) (writes : List Write) (w : Contents) → ListsStandFor docs writes w → AreDistinct w.docs
stands_distinct docs writes w s = ap (λ (v : Contents). are_distinct v.docs) s.same ∙ s.distinct

pub stands_dated : (docs : List Placed) (writes : List Write) (w : Contents) → ListsStandFor docs writes w
    → (path : Path) → path.folder ≡ false → w.version path ≡ doc_version (doc_in path w.docs)
stands_dated docs writes w s path document =
    ap (λ (v : Contents). v.version path) s.same
    ∙ cond-false path.folder (if is_there path docs then last_write path writes else 0) (doc_version (doc_in path docs)) document
    ∙ sym (ap (λ (v : Contents). doc_version (doc_in path v.docs)) s.same)
