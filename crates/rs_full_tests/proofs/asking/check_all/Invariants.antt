use Rattle.rs_full_tests.proofs.asking.check_all.Given as goal

abbrev pub invariant-loop-table : goal.invariant-loop-table
invariant-loop-table g l = g.D.Desk.serves l.desk 0
