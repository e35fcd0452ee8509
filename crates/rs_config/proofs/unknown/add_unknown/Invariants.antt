use Rattle.std.proofs.Common.{◌≡◌, List, ◌++◌}
use Rattle.toml.specs.View.{members_view}
use Rattle.toml.proofs.Views.{Entry}
use Rattle.rs_config.specs.ConfigReadings.{unknown_in}
use Rattle.rs_config.proofs.unknown.add_unknown.Given as goal

abbrev pub invariant-loop-name : goal.invariant-loop-name
invariant-loop-name l =
    (done : List Entry) × (l.table.entries ≡ done ++ l.name-iterator) × (l.names.items ≡ l.fn.names.items ++ unknown_in l.known (members_view done))
