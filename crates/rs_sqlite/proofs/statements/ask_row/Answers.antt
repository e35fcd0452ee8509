use Rattle.std.proofs.Math.Facts.{to_z-of_z}
use Rattle.sqlite.specs.Held.{state}
use Rattle.rs_sqlite.proofs.Texts.{fetch_text, fetch_plain}
use Rattle.rs_sqlite.proofs.StatementLemmas.{asked, queried_holds, query_stops}
use Rattle.rs_sqlite.proofs.statements.ask_row.Goals as goal

pub returns-clause-row : goal.returns-clause-row
returns-clause-row g c rows i row h is at clean =
    asked (state g.S.Store c.args.connection.now) (state g.S.Store c.query_row.new.self) rows row i c.args.n c.query_row.result h is at
    (rw (c.params-to_sql.ensures, to_z-of_z c.ranges.n) at (c.query_row.ensures.row clean))

pub returns-clause-holds : goal.returns-clause-holds
returns-clause-holds g c rows h clean still =
    queried_holds fetch_text _ (state g.S.Store c.args.connection.now) (state g.S.Store c.query_row.new.self) rows fetch_plain h c.query_row.result (c.query_row.ensures.row clean) still

pub returns-clause-stop : goal.returns-clause-stop
returns-clause-stop g c rows h =
    query_stops fetch_text _ (state g.S.Store c.args.connection.now) (state g.S.Store c.query_row.new.self) rows fetch_plain h c.query_row.ensures.survives
