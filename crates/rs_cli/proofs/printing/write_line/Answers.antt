use Rattle.std.proofs.Common.{[], ◌∷◌}
use Rattle.std.proofs.lemmas.Result.{err_from_is_err_and}
use Rattle.rs_face.proofs.Cited.{Appends-trans, AppendsFront-after, AppendsFront-longer, Writes-kept}
use Rattle.rs_face.specs.Courses.{course}
use Rattle.rs_cli.proofs.printing.write_line.Goals as goal

pub returns-in_err-write_all-clause-writes : goal.returns-in_err-write_all-clause-writes
returns-in_err-write_all-clause-writes g c =
    let p = err_from_is_err_and c.from_residual.result c.from_residual.ensures.1 in
    rw p.1 (AppendsFront-longer _ _ c.args.text.now (10 ∷ []) c.in_err-write_all.ensures.err)

pub returns-in_err-write_all-2-clause-writes : goal.returns-in_err-write_all-2-clause-writes
returns-in_err-write_all-2-clause-writes g c =
    let p = err_from_is_err_and c.from_residual-in_err-write_all-2.result c.from_residual-in_err-write_all-2.ensures.1 in
    rw p.1 (AppendsFront-after _ _ _ c.args.text.now (10 ∷ []) c.in_ok-write_all.ensures.ok c.in_err-write_all-2.ensures.err)

pub returns-clause-writes : goal.returns-clause-writes
returns-clause-writes g c =
    Writes-kept (course g.W.Sink.written g.W.Sink.faults c.args.sink.now c.flush.new.self) _ _ _ (Appends-trans _ _ _ c.args.text.now (10 ∷ []) c.in_ok-write_all.ensures.ok c.in_ok-write_all-2.ensures.ok) c.flush.ensures.bytes
