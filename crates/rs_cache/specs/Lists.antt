-- What a client shows of a folder, child by child.
use Rattle.std.specs.Prelude.{◌≡◌, ℕ, true, false, List, length, filter, Option, Some, None}
use Rattle.std.specs.Ordering.{is_le}
use Rattle.std.specs.declared.cmp.Ordering.TheVariants.{Less}
use Rattle.std.specs.declared.ops.Bound.{Bound}
use Rattle.rs_path.specs.declared.child.Child.{Child}
use Rattle.rs_path.specs.Paths.{Path, is_path, path_cmp}
use Rattle.rs_path.specs.Below.{is_below}
use Rattle.rs_path.specs.Children.{child_towards}
use Rattle.rs_rules.specs.Listings.{children}
use Rattle.rs_cache.specs.States.{State}
use Rattle.rs_cache.specs.Views.{known_paths, viewed_paths}
use Rattle.rs_cache.specs.Firsts.{is_started, first_shown}

-- the paths of the documents of the view: each is one, as the type of paths promises
abbrev pub shown_paths : State → List Path
shown_paths s = filter is_path (viewed_paths s)

-- the children of the folder in the view, in byte order of their keys
abbrev pub shown_children : State → Path → List Child
shown_children s folder = children folder (shown_paths s)

-- how many known paths are still to come, this one among them
abbrev pub still_to_come : State → Option Path → ℕ
still_to_come s None = 0
still_to_come s (Some path) = length (filter (λ q. is_le (path_cmp path q)) (known_paths s))

-- the next path: the first of the view below the folder from some start on, which is behind the path; what comes between
-- leads to the same child as the path
pub record IsNextChild (s : State) (folder path : Path) (next : Option Path) : Type 0 where
  pub start : Bound Path
  pub at : next ≡ first_shown s folder start
  pub behind : (q : Path) → is_started start q ≡ true → path_cmp path q ≡ Less
  pub same : (q : Path) → is_path q ≡ true → is_below folder q ≡ true → path_cmp path q ≡ Less → is_started start q ≡ false
      → child_towards folder q ≡ child_towards folder path
