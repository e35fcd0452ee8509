use Rattle.rs_turn.specs.Places.{added}
use Rattle.rs_turn.proofs.turn.turn.Given as goal

abbrev pub ghosts-book : goal.ghosts-book
ghosts-book g a = record { entry = added a.more (g.D.Deed.adds a._deed.now.value a._value.now.value a._who) }
