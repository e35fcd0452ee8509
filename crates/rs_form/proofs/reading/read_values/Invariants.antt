use Rattle.std.proofs.Common.{◌≡◌, ◌++◌, map, string_bytes}
use Rattle.form_urlencoded.specs.Parse.{raw_pairs_left}
use Rattle.rs_form.specs.Fields.{decoded_fields, values_among, form_values}
use Rattle.rs_form.proofs.reading.read_values.Given as goal

abbrev pub invariant-loop-key : goal.invariant-loop-key
invariant-loop-key l =
    map string_bytes l.values.items ++ values_among l.name (decoded_fields (raw_pairs_left l.key-iterator)) ≡ form_values l.name l.query
