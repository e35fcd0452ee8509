use Rattle.std.proofs.Common.{◌≡◌, take, map}
use Rattle.rs_path.specs.Paths.{folder_at}
use Rattle.rs_path.specs.Below.{proper_fronts}
use Rattle.rs_path.proofs.path.ancestors_at.Given as goal

abbrev pub invariant-loop-depth : goal.invariant-loop-depth
invariant-loop-depth l = l.ancestors.items ≡ map folder_at (take l.depth (proper_fronts l.names))
