use Rattle.std.proofs.Common.{◌≡◌, drop}
use Rattle.std.specs.List.{find}
use Rattle.rs_request.specs.Names.{is_field_named}
use Rattle.rs_request.proofs.name.first_named.Given as goal

abbrev pub invariant-loop-field : goal.invariant-loop-field
invariant-loop-field l = find (is_field_named l.name) (drop l.field-index l.fields) ≡ find (is_field_named l.name) l.fields
