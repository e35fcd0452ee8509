use Rattle.std.proofs.Common.{◌≡◌, ◌++◌, drop}
use Rattle.rs_serve_cli.specs.ServeRuns.{quotas_in}
use Rattle.rs_serve_cli.proofs.running.quotas_of.Given as goal

abbrev pub invariant-loop-room : goal.invariant-loop-room
invariant-loop-room l = l.quotas.items ++ quotas_in (drop l.room-index l.rooms) ≡ quotas_in l.rooms
