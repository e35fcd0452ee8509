use Rattle.std.proofs.Common.{◌≡◌, take}
use Rattle.rs_cache.proofs.doubts.Doubts.with.Given as goal

abbrev pub invariant-loop-doubt : goal.invariant-loop-doubt
invariant-loop-doubt l = l.list.items ≡ take l.doubt-index l.before
