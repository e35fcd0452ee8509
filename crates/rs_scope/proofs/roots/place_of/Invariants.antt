use Rattle.rs_scope.proofs.RootLemmas.{SoFar}
use Rattle.rs_scope.proofs.roots.place_of.Given as goal

abbrev pub invariant-loop-i : goal.invariant-loop-i
invariant-loop-i l = SoFar l.root l.roots l.i
