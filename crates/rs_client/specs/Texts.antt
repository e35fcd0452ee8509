-- What the commands that show print. Each line ends with LF; names and paths stand as in a target, numbers are decimal.
use Rattle.std.specs.Prelude.{ℕ, Bool, List, [], ◌∷◌, ◌++◌, length, codes, decimal, Option, Some, None, if◌then◌else◌}
use Rattle.std.specs.List.{flat_map}
use Rattle.rs_path.specs.declared.child.Child.{Child}
use Rattle.rs_path.specs.Targets.{escaped, target_text}
use Rattle.rs_talk.specs.declared.base.Base.{Base}
use Rattle.rs_talk.specs.declared.change.Change.{Change}
use Rattle.rs_talk.specs.declared.change.Change.TheVariants.{Put, Remove}
use Rattle.rs_talk.specs.Roots.{Root, root_text}
use Rattle.rs_cache.specs.declared.conflict.Conflict.{Conflict}
use Rattle.rs_cache.specs.declared.summary.Summary.{Summary}

-- ---- the names in a folder

-- what stands behind the name of a folder
abbrev pub folder_mark : Bool → List ℕ
folder_mark folder = if folder then codes "/" else []

-- a child of the folder: its name, `/` behind a folder's
unfoldable pub child_line : Child → List ℕ
child_line child = escaped child.name ++ (folder_mark child.folder ++ 10 ∷ [])

abbrev pub listing_text : List Child → List ℕ
listing_text children = flat_map child_line children

-- ---- how much there is

-- a count behind what it counts
unfoldable pub count_line : List ℕ → ℕ → List ℕ
count_line word count = word ++ (decimal count ++ 10 ∷ [])

-- the root, and the four counts
unfoldable pub summary_text : Root → Summary → List ℕ
summary_text root counts = codes "root " ++ (root_text root ++ (10 ∷ []
    ++ (count_line (codes "documents ") counts.documents
    ++ (count_line (codes "pending ") counts.pending
    ++ (count_line (codes "held ") counts.held
    ++ count_line (codes "conflicts ") counts.conflicts)))))

-- ---- the conflicts that aren't resolved

-- the client's own change: the content type of a document, and how many bytes it has
unfoldable pub change_words : Change → List ℕ
change_words Remove = codes "remove"
change_words (Put kind body) = codes "put " ++ (kind ++ (codes " " ++ decimal (length body)))

-- the entity tag of what the server had
abbrev pub remote_word : Option Base → List ℕ
remote_word None = codes "absent"
remote_word (Some base) = base.tag

-- the number, the path, the client's own change, what the server had
unfoldable pub conflict_line : Conflict → List ℕ
conflict_line conflict = decimal conflict.n ++ (codes " " ++ (target_text conflict.path ++ (codes " "
    ++ (change_words conflict.local ++ (codes " remote " ++ (remote_word conflict.remote ++ 10 ∷ []))))))

abbrev pub conflicts_text : List Conflict → List ℕ
conflicts_text conflicts = flat_map conflict_line conflicts
