use Rattle.std.proofs.Common.{◌≡◌, take, option_map}
use Rattle.rs_exchange.specs.Fields.{values_of, joined}
use Rattle.rs_exchange.proofs.fields.joined.Given as goal

abbrev pub invariant-loop-field : goal.invariant-loop-field
invariant-loop-field l = option_map (λ text. text.items) l.text ≡ joined (values_of l.name (take l.field-index l.fields))
