use Rattle.rs_full_tests.proofs.asking.check.Given as goal

abbrev pub invariant-loop-row : goal.invariant-loop-row
invariant-loop-row g l = g.D.Desk.serves l.desk 0
