use Rattle.std.proofs.Common.{rules}
use Rattle.rs_turn.proofs.Seating.{parts, quiet_stage}
use Rattle.rs_turn.proofs.steps.part.Goals as goal

pub split_seat-requires : goal.split_seat-requires
split_seat-requires g c = (search rules, search rules, parts _ _ _ _ _ (quiet_stage _ c.requires.quiet))
