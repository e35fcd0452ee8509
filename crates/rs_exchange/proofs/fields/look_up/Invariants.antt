use Rattle.std.proofs.Common.{take}
use Rattle.rs_exchange.specs.Fields.{values_of, Occurring}
use Rattle.rs_exchange.proofs.fields.look_up.Given as goal

abbrev pub invariant-loop-field : goal.invariant-loop-field
invariant-loop-field l = Occurring l.occurs (values_of l.name (take l.field-index l.fields))
