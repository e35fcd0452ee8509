use Rattle.std.proofs.Common.{rules}
use Rattle.rs_turn.proofs.Turning.{books}
use Rattle.rs_turn.proofs.steps.book.Goals as goal

pub fetch_add-requires : goal.fetch_add-requires
fetch_add-requires g c = (search rules, search rules, books _ _ _ _ _ _ _ _ c.requires.holds c.requires.entry c.requires.room)
