use Rattle.std.proofs.Common.{rules}
use Rattle.rs_turn.proofs.Turning.{grabs}
use Rattle.rs_turn.proofs.steps.grab.Goals as goal

pub fetch_max-requires : goal.fetch_max-requires
fetch_max-requires g c = let rest = c.requires.rest in (search rules, search rules, grabs _ _ _ _ _ _ rest.0 rest.1 rest.2 _ c.requires.mark)
