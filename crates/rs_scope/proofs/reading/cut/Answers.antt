use Rattle.std.proofs.Common.{sym}
use Rattle.std.proofs.lemmas.List.{take_rest}
use Rattle.rs_scope.specs.ScopeReadings.{is_space}
use Rattle.rs_scope.proofs.SplitLemmas.{split_at_first, split_whole}
use Rattle.rs_scope.proofs.reading.cut.Goals as goal

pub returns-in-Some-clause-parts : goal.returns-in-Some-clause-parts
returns-in-Some-clause-parts c = rw take_rest (split_at_first is_space _ _ (sym c.in-Some.ensures)).1

pub returns-in-None-clause-parts : goal.returns-in-None-clause-parts
returns-in-None-clause-parts c = split_whole is_space _ (sym c.in-None.ensures)
