use Rattle.std.proofs.Common.{◌≡◌, ◌≤◌, length, take}
use Rattle.rs_path.specs.Paths.{folder_at}
use Rattle.rs_rules.specs.Contents.{paths_in}
use Rattle.rs_rules.specs.Listings.{children}
use Rattle.rs_rules.specs.Sound.{AreDistinct}
use Rattle.rs_plain.proofs.full.count_children.Given as goal

abbrev pub invariant-loop-i : goal.invariant-loop-i
invariant-loop-i l = (AreDistinct l.docs → l.count ≡ length (children (folder_at l.names) (paths_in (take l.i l.docs)))) × (l.count ≤ l.i)
