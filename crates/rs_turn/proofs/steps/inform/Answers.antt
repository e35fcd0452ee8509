use Rattle.std.proofs.Common.{rules}
use Rattle.rs_turn.proofs.Seating.{joins}
use Rattle.rs_turn.proofs.steps.inform.Goals as goal

pub join_seat-requires : goal.join_seat-requires
join_seat-requires g c = let note = c.requires.note in (search rules, search rules, search rules, search rules, joins _ _ _ _ _ _ _ c.requires.rest.1 note.2 note.3)
