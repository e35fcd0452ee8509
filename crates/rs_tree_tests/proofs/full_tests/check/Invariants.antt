use Rattle.rs_tree_tests.proofs.full_tests.check.Given as goal

abbrev pub invariant-loop-row : goal.invariant-loop-row
invariant-loop-row g l = g.D.Desk.serves l.desk 0
