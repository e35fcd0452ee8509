use Rattle.std.proofs.Common.{length}
use Rattle.rs_sqlite.proofs.statements.rows_of.Goals as goal

pub returns-clause-count : goal.returns-clause-count
returns-clause-count g c rows opens clean =
    let made = c.in_ok-make_table.ensures.holds rows opens (c.ask_count.ensures.clean clean) in
    c.read_count.ensures.count (length rows) (c.in_ok-row.ensures.count rows made clean)
