-- What one look at a path finds.
use Rattle.std.specs.Prelude.{◌≡◌, ℕ, Bool, true, false, Option, Some, None}
use Rattle.rs_path.specs.Paths.{Path}
use Rattle.rs_rules.specs.Documents.{doc_in}
use Rattle.rs_rules.specs.Contents.{Contents}
use Rattle.rs_user.specs.declared.sight.Sight.{Sight}
use Rattle.rs_user.specs.declared.sight.Sight.TheVariants.{Folder, Document, Nothing}

-- the look at the path found what the contents have there, and its version
abbrev pub IsSight : Sight → Contents → Path → Type 0
IsSight (Folder version) w path = (path.folder ≡ true) × (w.version path ≡ version)
IsSight (Document doc) w path = (path.folder ≡ false) × (doc_in path w.docs ≡ Some doc.now) × (w.version path ≡ doc.now.version)
IsSight Nothing w path = (path.folder ≡ false) × (doc_in path w.docs ≡ None) × (w.version path ≡ 0)
