use Rattle.std.proofs.Common.{take}
use Rattle.rs_talk.specs.AnswerReadings.{field_values}
use Rattle.rs_talk.specs.FieldCounts.{Counted}
use Rattle.rs_talk.proofs.shown.count.Given as goal

abbrev pub invariant-loop-field : goal.invariant-loop-field
invariant-loop-field l = Counted l.found (field_values l.name (take l.field-index l.fields))
