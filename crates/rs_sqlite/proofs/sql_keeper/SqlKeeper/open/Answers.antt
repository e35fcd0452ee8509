use Rattle.rs_sqlite.proofs.sql_keeper.SqlKeeper.open.Goals as goal

pub returns-in-Ok-Some-clause-rows : goal.returns-in-Ok-Some-clause-rows
returns-in-Ok-Some-clause-rows g c rows opens clean = record {
  holds = c.in-Ok-Some.ensures.holds rows opens clean;
  counts = rw c.in-Ok-Some.field-0-is at (c.in-Ok-Some.ensures.count rows opens clean);
}
