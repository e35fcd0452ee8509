use Rattle.std.proofs.lemmas.Result.{err_from_is_err_and}
use Rattle.rs_reply.specs.Writing.{start_text, phrase_of}
use Rattle.rs_face.proofs.Cited.{AppendsFront-longer}
use Rattle.std.proofs.Common.{ℕ, List, ◌++◌, subst}
use Rattle.std.specs.Io.KnownBytes.{Appends}
use Rattle.rs_face.specs.Courses.{course, Writes}
use Rattle.rs_face.specs.Told.{AppendsFront}
use Rattle.rs_front.proofs.SendLemmas.{writes_after}
use Rattle.rs_front.proofs.sending.send_fixed.Goals as goal

pub returns-in_err-write_all-clause-writes : goal.returns-in_err-write_all-clause-writes
returns-in_err-write_all-clause-writes g c =
    let p = err_from_is_err_and c.from_residual.result c.from_residual.ensures.1 in
    rw p.1 (AppendsFront-longer _ _ (start_text c.args.status) (phrase_of c.args.status ++ c.args.lines.now)
    (subst (AppendsFront (g.W.Sink.written c.args.sink.now) (g.W.Sink.written c.write_all.new.sink)) c.status_start.ensures.start c.in_err-write_all.ensures.err))

pub returns-clause-writes : goal.returns-clause-writes
returns-clause-writes g c =
    writes_after _ _ _ (g.W.Sink.faults c.write_all.new.sink) (g.W.Sink.faults c.send.new.sink) (g.W.Sink.faults c.args.sink.now) (g.W.Sink.faults c.send.new.sink) (start_text c.args.status) (phrase_of c.args.status ++ c.args.lines.now) c.send.result
    (subst (Appends (g.W.Sink.written c.args.sink.now) (g.W.Sink.written c.write_all.new.sink)) c.status_start.ensures.start c.in_ok-write_all.ensures.ok)
    (subst (λ (l : List ℕ). Writes (course g.W.Sink.written g.W.Sink.faults c.write_all.new.sink c.send.new.sink) (l ++ c.args.lines.now) c.send.result)
    c.phrase_of.ensures.phrase c.send.ensures.writes)
