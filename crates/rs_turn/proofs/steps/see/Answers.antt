use Rattle.std.proofs.Common.{rules}
use Rattle.rs_turn.proofs.Seating.{sees}
use Rattle.rs_turn.proofs.steps.see.Goals as goal

pub load-requires : goal.load-requires
load-requires g c = (search rules, search rules, sees _ _ _ _ _ _ c.requires.rest.1 c.requires.rest.2)
