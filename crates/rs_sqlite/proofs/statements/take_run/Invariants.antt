use Rattle.std.proofs.Common.{◌≡◌}
use Rattle.rs_sqlite.proofs.RunLemmas.{RunSoFar}
use Rattle.rs_sqlite.proofs.statements.take_run.Given as goal

abbrev pub invariant-rows : goal.invariant-rows
invariant-rows g l = (l.rows.conn.ghost_name ≡ l.fn.rows.conn.ghost_name) × RunSoFar g.S.Store l.fn.rows.conn.now l.rows.conn.now l.run.items l.count
