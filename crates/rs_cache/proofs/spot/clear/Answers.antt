use Rattle.std.proofs.Common.{◌∙◌}
use Rattle.rs_cache.proofs.MapLemmas.{removed-clear}
use Rattle.rs_cache.proofs.spot.clear.Goals as goal

pub returns : goal.returns
returns g c = record { cleared = c.remove.ensures.entries ∙ removed-clear c.args.path.now c.args.map.now.entries c.len.ensures.ordered }
