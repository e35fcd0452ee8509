-- What a client shows of its documents, changes that weren't synchronised among them.
use Rattle.std.specs.Prelude.{Bool, not, List, drop, map, filter, find, fold, Option, Some, None}
use Rattle.std.specs.Option.{option_or}
use Rattle.std.specs.BTreeSet.{insert_key}
use Rattle.rs_path.specs.declared.child.Child.{Child}
use Rattle.rs_path.specs.Paths.{Path, folder_at, document_at, path_cmp}
use Rattle.rs_path.specs.Below.{is_below, ancestors_of}
use Rattle.rs_rules.specs.Listings.{children}
use Rattle.rs_talk.specs.declared.base.Base.{Base}
use Rattle.rs_talk.specs.declared.change.Change.{Change}
use Rattle.rs_talk.specs.Changes.{change_to, is_removal}
use Rattle.rs_cache.specs.declared.pending.Pending.{Pending}
use Rattle.rs_cache.specs.States.{State, base_at, pending_at}

-- the pending change, or the base where nothing is pending
abbrev pub view_by : Option Pending → Option Base → Change
view_by None base = change_to base
view_by (Some pending) base = pending.change

-- the document at the path in the view: a Put of it, or a Remove where there is none
abbrev pub view_at : State → Path → Change
view_at s path = view_by (pending_at s path) (base_at s path)

-- the view has a document at the path
abbrev pub is_viewed : State → Path → Bool
is_viewed s path = not (is_removal (view_at s path))

-- the paths with a base or a change, each once, in the order of paths: a base's, and among them those of changes
abbrev pub known_paths : State → List Path
known_paths s = fold (insert_key path_cmp) (map (λ (e : Path × Base). e.0) s.base) (map (λ (e : Path × Pending). e.0) s.pending)

-- the paths of the documents of the view, in their order
abbrev pub viewed_paths : State → List Path
viewed_paths s = filter (is_viewed s) (known_paths s)

-- the children of the folder in the view, in byte order of their keys
abbrev pub viewed_children : State → Path → List Child
viewed_children s folder = children folder (viewed_paths s)

-- ---- clashes

-- the documents whose names are a proper front of the path's, those with the fewest first
abbrev pub documents_above : Path → List Path
documents_above path = map (λ (f : Path). document_at f.names) (drop 1 (ancestors_of path))

-- a document of the view with a proper front of the names, the one with the fewest
abbrev pub viewed_above : State → Path → Option Path
viewed_above s path = find (is_viewed s) (documents_above path)

-- the least document of the view below the names
abbrev pub viewed_below : State → Path → Option Path
viewed_below s path = find (is_below (folder_at path.names)) (viewed_paths s)

-- what a document at the path clashes with in the view
abbrev pub clash_of : State → Path → Option Path
clash_of s path = option_or (viewed_above s path) (viewed_below s path)
