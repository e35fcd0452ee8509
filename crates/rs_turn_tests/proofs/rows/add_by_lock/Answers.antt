use Rattle.rs_turn_tests.proofs.Unnamed.{unnamed, whats-unnamed, none_own}
use Rattle.rs_turn_tests.proofs.rows.add_by_lock.Goals as goal

pub new-requires : goal.new-requires
new-requires g c = let rows = c.args.rows.rows.items in (unnamed rows, whats-unnamed rows, λ n above. none_own n rows above)
