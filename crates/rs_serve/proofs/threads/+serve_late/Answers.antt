use Rattle.std.proofs.Common.{rules, refl}
use Rattle.rs_serve.proofs.HallLemmas.{late_none, late_more}
use Rattle.rs_serve.proofs.threads.+serve_late.Goals as goal

pub returns-in_default-clause-late : goal.returns-in_default-clause-late
returns-in_default-clause-late g t c = late_none _ _ _ _ _ _ c.in_default.ensures.cases (search rules) refl

pub returns-clause-late : goal.returns-clause-late
returns-clause-late g t c =
    late_more _ _ _ _ c.in-Some.worker.now c.serve_if_late.new.worker c.in-Some.rest.now c.serve_late.new.workers _ _ _ c.in-Some.ensures.cases.0
    (search rules) c.serve_if_late.ensures.late c.serve_late.ensures.late
