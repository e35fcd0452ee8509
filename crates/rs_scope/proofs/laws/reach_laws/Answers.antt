use Rattle.rs_scope.proofs.ReachLemmas.{apart, reaches_reading, reaches_by_kind}
use Rattle.rs_scope.proofs.laws.reach_laws.Goals as goal

pub returns-clause-apart : goal.returns-clause-apart
returns-clause-apart c = apart

pub returns-clause-reading : goal.returns-clause-reading
returns-clause-reading c = reaches_reading

pub returns-clause-by_kind : goal.returns-clause-by_kind
returns-clause-by_kind c = reaches_by_kind
