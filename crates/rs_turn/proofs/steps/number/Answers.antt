use Rattle.std.proofs.Common.{rules}
use Rattle.rs_turn.proofs.Seating.{numbers}
use Rattle.rs_turn.proofs.steps.number.Goals as goal

pub fetch_add-requires : goal.fetch_add-requires
fetch_add-requires g c = (search rules, search rules, numbers _ _ _ _ _ _ c.requires.looked)
