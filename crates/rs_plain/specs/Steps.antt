-- Steps from a folder towards paths.
use Rattle.std.specs.Prelude.{ℕ, Bool, false, not, ◌||◌, List, Option, Some, None}
use Rattle.std.specs.Borrow.{Bor}
use Rattle.std.specs.List.{list_any}
use Rattle.rs_path.specs.declared.child.Child.{Child}
use Rattle.rs_path.specs.Paths.{Path}
use Rattle.rs_path.specs.Children.{child_towards, same_child}
use Rattle.rs_rules.specs.declared.placed.Placed.{Placed}

-- a name that is seen, and whether it is a folder's
abbrev pub as_child : Bor (List ℕ) × Bool → Child
as_child step = record { name = step.0.now; folder = step.1 }

-- the step is to the child
abbrev pub is_to : Child → Option Child → Bool
is_to child None = false
is_to child (Some other) = same_child child other

-- a document at or below the child
abbrev pub is_seen : Path → List Placed → Child → Bool
is_seen folder docs child = list_any (λ (d : Placed). is_to child (child_towards folder d.path)) docs

-- the step is to a child with no document at or below it
abbrev pub is_fresh : Path → List Placed → Option Child → Bool
is_fresh folder docs None = false
is_fresh folder docs (Some child) = not (is_seen folder docs child)

-- the step is to a document, or to a folder with no document below it
abbrev pub is_first : Path → List Placed → Option Child → Bool
is_first folder docs None = false
is_first folder docs (Some child) = not child.folder || not (is_seen folder docs child)
