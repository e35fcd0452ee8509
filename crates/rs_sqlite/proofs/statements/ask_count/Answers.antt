use Rattle.std.proofs.Common.{[]}
use Rattle.sqlite.specs.Held.{state}
use Rattle.rs_sqlite.proofs.Texts.{count_text, count_plain}
use Rattle.rs_sqlite.proofs.StatementLemmas.{shown_or_refused}
use Rattle.rs_sqlite.proofs.CountLemmas.{asked_count}
use Rattle.rs_sqlite.proofs.statements.ask_count.Goals as goal

pub returns-clause-count : goal.returns-clause-count
returns-clause-count g c rows h clean =
    asked_count (state g.S.Store c.args.connection.now) (state g.S.Store c.query_row.new.self) rows c.query_row.result h (c.query_row.ensures.row clean)

pub returns-clause-holds : goal.returns-clause-holds
returns-clause-holds g c rows h clean =
    shown_or_refused count_text [] (state g.S.Store c.args.connection.now) (state g.S.Store c.query_row.new.self) rows c.query_row.result count_plain h (c.query_row.ensures.row clean)
