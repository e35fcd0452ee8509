use Rattle.std.proofs.Common.{ap, ◌∙◌, subst}
use Rattle.rs_turn.specs.declared.board.View.{View}
use Rattle.rs_turn.specs.Origins.{StandsFrom}
use Rattle.rs_turn.specs.Plays.{TakesValue}
use Rattle.rs_turn.proofs.waiting.wait.Goals as goal

pub returns-then-grab-eq-FREE-clause-taken : goal.returns-then-grab-eq-FREE-clause-taken
returns-then-grab-eq-FREE-clause-taken g c =
    let took = c.grab.ensures.grabbed.0 c.if-grab-eq-FREE.true in
    subst (λ (v : View g.row.V-What.Denot g.row.V.Denot). TakesValue (λ o b. StandsFrom g.V.Held.stands g.V.Held.basis o b.value) v c.grab.new.place.me) (ap (λ m. m.0) (c.loop.invariant.1 ∙ c.glance.ensures.missed c.if-glance.false)) took
