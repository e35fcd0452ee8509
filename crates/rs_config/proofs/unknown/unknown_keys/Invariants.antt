use Rattle.std.proofs.Common.{◌≡◌, ◌++◌, map, drop}
use Rattle.std.specs.Prelude.{flat_map}
use Rattle.toml.specs.View.{view, table_view}
use Rattle.rs_config.specs.ConfigReadings.{unknown_of_user, unknown_with}
use Rattle.rs_config.proofs.unknown.unknown_keys.Given as goal

abbrev pub invariant-loop-value : goal.invariant-loop-value
invariant-loop-value l =
    l.names.items ++ flat_map unknown_of_user (map view (drop l.value-index l.values)) ≡ unknown_with (table_view l.table) (map view l.values)
