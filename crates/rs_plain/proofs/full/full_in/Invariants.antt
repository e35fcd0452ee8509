use Rattle.std.proofs.Common.{◌≡◌, [], take, drop}
use Rattle.rs_rules.specs.Clashes.{first_front, is_full}
use Rattle.rs_rules.specs.Sound.{AreDistinct}
use Rattle.rs_plain.proofs.full.full_in.Given as goal

abbrev pub invariant-loop-depth : goal.invariant-loop-depth
invariant-loop-depth l =
    AreDistinct l.docs → first_front (is_full l.docs l.path) [] l.names ≡ first_front (is_full l.docs l.path) (take l.depth l.names) (drop l.depth l.names)
