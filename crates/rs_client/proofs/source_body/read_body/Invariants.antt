use Rattle.std.proofs.Common.{◌-◌, length}
use Rattle.rs_face.specs.Courses.{course}
use Rattle.rs_client.specs.Reading.{HasRead}
use Rattle.rs_client.proofs.source_body.read_body.Given as goal

abbrev pub invariant-loop-body : goal.invariant-loop-body
invariant-loop-body g l = HasRead l.body.items (course g.S.Source.left g.S.Source.faults l.initial.source l.source)

abbrev pub decreases-loop-body : goal.decreases-loop-body
decreases-loop-body g l = 67108864 - length l.body.items
