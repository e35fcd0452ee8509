use Rattle.std.proofs.Common.{ℕ, List}
use Rattle.rs_chain.specs.Nodes.{node_parent}
use Rattle.rs_chain.specs.Climbs.{AreLinked, Climbs}
use Rattle.rs_chain.proofs.ClimbLemmas.{Climbing}
use Rattle.rs_chain.proofs.climb.climb.Given as goal

abbrev pub invariant-loop-level : goal.invariant-loop-level
invariant-loop-level g l =
    (order : ℕ → List ℕ) (above : List ℕ) → AreLinked l.fn.nodes order → Climbs (node_parent l.fn.nodes) l.fn.from above
    → Climbing l.fn.nodes l.nodes order l.fn.from above l.at l.n l.fn.steps l.steps l._level
