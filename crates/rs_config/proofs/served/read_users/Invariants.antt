use Rattle.std.proofs.Common.{◌≡◌, true, [], length, map, drop}
use Rattle.std.specs.List.{list_all}
use Rattle.toml.specs.View.{view}
use Rattle.rs_path.specs.Users.{is_user}
use Rattle.rs_exchange.specs.Accounts.{names_of}
use Rattle.rs_config.specs.ServeSettings.{users_from}
use Rattle.rs_config.proofs.served.read_users.Given as goal

abbrev pub invariant-loop-value : goal.invariant-loop-value
invariant-loop-value l = record {
  read : users_from l.accounts l.rooms.items (map view (drop l.value-index l.values)) ≡ users_from [] [] (map view l.values);
  names : list_all is_user (names_of l.accounts) ≡ true;
  few : length l.accounts ≡ l.value-index;
}
