use Rattle.std.proofs.Common.{rules}
use Rattle.rs_turn.proofs.Seating.{counts}
use Rattle.rs_turn.proofs.steps.count.Goals as goal

pub load-requires : goal.load-requires
load-requires g c = (search rules, search rules, counts _ _ _ _ _ _ c.requires.rest.1 c.requires.rest.2)
