use Rattle.std.proofs.Common.{length}
use Rattle.rs_plain.proofs.steps.+step_from.Given as goal

abbrev pub decreases-step_from : goal.decreases-step_from
decreases-step_from l = length l.outer.now
