use Rattle.sqlite.specs.Held.{state}
use Rattle.rs_sqlite.proofs.StatementLemmas.{makes}
use Rattle.rs_sqlite.proofs.statements.make_table.Goals as goal

pub returns-clause-holds : goal.returns-clause-holds
returns-clause-holds g c rows opens clean =
    makes (state g.S.Store c.args.connection.now) (state g.S.Store c.execute.new.self) rows c.execute.result opens (c.execute.ensures.runs clean)
