use Rattle.rs_scope.proofs.ReadingLemmas.{HasScopes-from, scopes_reading-text}
use Rattle.rs_scope.proofs.scopes.Scopes.write.Goals as goal

pub returns-in_err-text-clause-back : goal.returns-in_err-text-clause-back
returns-in_err-text-clause-back c = rw (← c.self.view_is) (scopes_reading-text _ c.self.invariant)

pub returns-in_err-extend_from_slice-clause-back : goal.returns-in_err-extend_from_slice-clause-back
returns-in_err-extend_from_slice-clause-back c = rw (← c.self.view_is) (scopes_reading-text _ c.self.invariant)

pub returns-clause-back : goal.returns-clause-back
returns-clause-back c = rw (← c.self.view_is) (scopes_reading-text _ c.self.invariant)

pub returns-in_err-text-clause-short : goal.returns-in_err-text-clause-short
returns-in_err-text-clause-short c = rw (← c.self.view_is) (HasScopes-from _ c.self.invariant).short

pub returns-in_err-extend_from_slice-clause-short : goal.returns-in_err-extend_from_slice-clause-short
returns-in_err-extend_from_slice-clause-short c = rw (← c.self.view_is) (HasScopes-from _ c.self.invariant).short

pub returns-clause-short : goal.returns-clause-short
returns-clause-short c = rw (← c.self.view_is) (HasScopes-from _ c.self.invariant).short
