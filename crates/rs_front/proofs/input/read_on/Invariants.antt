use Rattle.std.proofs.Common.{◌-◌, ◌+◌, ◌≤◌, ℕ, List, Bool}
use Rattle.rs_face.specs.Courses.{course}
use Rattle.rs_request.specs.Laws.{fed_at}
use Rattle.rs_request.specs.Readers.{Stands, fed_count}
use Rattle.rs_front.specs.Inputs.{most_read}
use Rattle.rs_front.proofs.InputLemmas.{ReadSoFar}
use Rattle.rs_front.proofs.input.read_on.Given as goal

abbrev pub invariant-reading : goal.invariant-reading
invariant-reading g l = record {
  so_far : (place : ℕ) (bytes : List ℕ) (told : Bool) → Stands l.fn.reader (fed_at place bytes told)
      → ReadSoFar place bytes told l.reader
      (course g.S.Source.left g.S.Source.faults l.fn.source l.source);
  count : fed_count l.reader ≤ fed_count l.fn.reader + most_read;
  later : g.S.Source.faults l.fn.source ≤ g.S.Source.faults l.source;
}

abbrev pub decreases-reading : goal.decreases-reading
decreases-reading g l = fed_count l.fn.reader + most_read - fed_count l.reader
