use Rattle.std.proofs.Common.{◌≡◌}
use Rattle.rs_cache.specs.Views.{is_viewed, viewed_above}
use Rattle.rs_cache.proofs.TwinLemmas.{FirstFrom}
use Rattle.rs_cache.proofs.client.Client.viewed_above.Given as goal

abbrev pub invariant-loop-depth : goal.invariant-loop-depth
invariant-loop-depth l = viewed_above l.self l.path ≡ FirstFrom (is_viewed l.self) l.depth l.folders.items
