use Rattle.std.proofs.Common.{ap, Ok, ◌∙◌}
use Rattle.rs_cache.proofs.ClientRowLemmas.{taken-some}
use Rattle.rs_cache.proofs.opening.ClientReplayed.take_row.Goals as goal

pub returns-in-Ok-Some-clause-taken : goal.returns-in-Ok-Some-clause-taken
returns-in-Ok-Some-clause-taken c rows made =
    taken-some c.args.self.now c.take.new.self rows c.args.row.now c.in-Ok-Some.event c.take.result
    (c.in-Ok-Some.ensures.read ∙ ap Ok c.in-Ok-Some.field-0-is) c.take.ensures.taken made
