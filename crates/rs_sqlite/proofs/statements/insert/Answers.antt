use Rattle.std.proofs.Math.Facts.{to_z-of_z}
use Rattle.sqlite.specs.Held.{state}
use Rattle.rs_sqlite.proofs.StatementLemmas.{inserted, not_inserted, insert_stops}
use Rattle.rs_sqlite.proofs.statements.insert.Goals as goal

pub returns-clause-holds : goal.returns-clause-holds
returns-clause-holds g c rows h is few clean =
    inserted (state g.S.Store c.args.connection.now) (state g.S.Store c.execute.new.self) rows c.args.row.now c.args.n c.execute.result is few h
    (rw (c.params-to_sql.ensures, c.params-to_sql-2.ensures, to_z-of_z c.ranges.n) at (c.execute.ensures.runs clean))

pub returns-clause-refused : goal.returns-clause-refused
returns-clause-refused g c rows h clean =
    not_inserted (state g.S.Store c.args.connection.now) (state g.S.Store c.execute.new.self) rows _ c.execute.result h (c.execute.ensures.runs clean)

pub returns-clause-stop : goal.returns-clause-stop
returns-clause-stop g c rows h is =
    insert_stops (state g.S.Store c.args.connection.now) (state g.S.Store c.execute.new.self) rows c.args.row.now c.args.n is h
    (rw (c.params-to_sql.ensures, c.params-to_sql-2.ensures, to_z-of_z c.ranges.n) at c.execute.ensures.survives)
