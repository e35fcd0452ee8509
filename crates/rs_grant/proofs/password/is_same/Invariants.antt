use Rattle.rs_grant.proofs.PasswordLemmas.{Compared}
use Rattle.rs_grant.proofs.password.is_same.Given as goal

abbrev pub invariant-loop-i : goal.invariant-loop-i
invariant-loop-i l = Compared l.digest l.secret l.i l.differing
