-- The children of a folder: a name, and whether it is a folder's.
use Rattle.std.specs.Prelude.{ℕ, Bool, true, List, [], ◌∷◌, ◌++◌, Option, Some, None, if◌then◌else◌}
use Rattle.std.specs.declared.cmp.Ordering.{Ordering}
use Rattle.std.specs.Ordering.{nat_cmp, bool_cmp, on, then_cmp, eq_of_both}
use Rattle.std.specs.Cmp.Lexicographic.{slice_cmp}
use Rattle.std.specs.Str.{bytes_eq}
use mathlib.Core.Bool.{beq}
use Rattle.rs_path.specs.declared.child.Child.{Child}
use Rattle.rs_path.specs.Keys.{key_text}
use Rattle.rs_path.specs.Paths.{Path}

-- the name, with `/` at the end of a folder's
abbrev pub key_of : Child → List ℕ
key_of child = key_text child.name child.folder

-- the same name, and both folders or neither
abbrev pub same_child : Child → Child → Bool
same_child = eq_of_both (on (λ (child : Child). child.name) bytes_eq) (on (λ (child : Child). child.folder) beq)

-- the order of the keys, byte by byte; the rest tells apart only what has no name
abbrev pub child_cmp : Child → Child → Ordering
child_cmp = then_cmp (on key_of (slice_cmp nat_cmp)) (on (λ (child : Child). child.folder) bool_cmp)

-- the path in the folder that this child is
abbrev pub child_at : Path → Child → Path
child_at parent child = record { names = parent.names ++ child.name ∷ []; folder = child.folder }

-- what stands behind the first names: one name more, and whether it is the whole
abbrev pub child_from : List (List ℕ) → List (List ℕ) → Bool → Option Child
child_from [] [] folder = None
child_from [] (n ∷ []) folder = Some (record { name = n; folder = folder })
child_from [] (n ∷ m ∷ ns) folder = Some (record { name = n; folder = true })
child_from (m ∷ ms) [] folder = None
child_from (m ∷ ms) (n ∷ ns) folder = if bytes_eq m n then child_from ms ns folder else None

-- the child of the folder that the path is, or is below; None where the path isn't below the folder
abbrev pub child_towards : Path → Path → Option Child
child_towards folder path = child_from folder.names path.names path.folder
