-- The users that the code holds, as the definitions see them.
use Rattle.rs_config.specs.declared.served.Served.{Served}
use Rattle.rs_config.specs.ServeSettings.{ConfiguredUsers}

abbrev pub seen_users : Served → ConfiguredUsers
seen_users served = record { accounts = served.accounts; rooms = served.rooms.items }
