use Rattle.rs_face.proofs.Cited.{Writes-kept}
use Rattle.rs_face.specs.Courses.{course}
use Rattle.rs_cli.proofs.printing.write_text.Goals as goal

pub returns-clause-writes : goal.returns-clause-writes
returns-clause-writes g c =
    Writes-kept (course g.W.Sink.written g.W.Sink.faults c.args.sink.now c.flush.new.self) (g.W.Sink.written c.write_all.new.sink) c.args.text.now c.flush.result
    c.in_ok-write_all.ensures.ok c.flush.ensures.bytes
