use Rattle.std.proofs.Common.{◌≡◌, drop}
use Rattle.rs_cache.specs.Spots.{cleared}
use Rattle.rs_cache.proofs.spot.clear_all.Given as goal

abbrev pub invariant-loop-path : goal.invariant-loop-path
invariant-loop-path g l = cleared l.paths l.fn.map.entries ≡ cleared (drop l.path-index l.paths) l.map.entries
