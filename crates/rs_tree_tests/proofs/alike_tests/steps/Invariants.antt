use Rattle.rs_tree_tests.proofs.alike_tests.steps.Given as goal

abbrev pub invariant-loop : goal.invariant-loop
invariant-loop g l = g.D.Desk.serves l.one 0 × g.E.Desk.serves l.other 0
