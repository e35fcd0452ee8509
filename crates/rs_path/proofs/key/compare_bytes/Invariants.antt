use Rattle.std.proofs.Common.{◌≡◌, drop}
use Rattle.rs_path.specs.Keys.{key_cmp}
use Rattle.rs_path.proofs.key.compare_bytes.Given as goal

abbrev pub invariant-loop-i : goal.invariant-loop-i
invariant-loop-i l = key_cmp (drop l.i l.own) l.own_folder (drop l.i l.theirs) l.their_folder ≡ key_cmp l.own l.own_folder l.theirs l.their_folder
