use Rattle.std.proofs.Common.{ap, ◌∙◌}
use Rattle.sqlite.specs.Held.{state}
use Rattle.rs_sqlite.specs.Keeping.{Keeping}
use Rattle.rs_sqlite.specs.Tables.{rows_in}
use Rattle.rs_sqlite.proofs.TellingLemmas.{told_rows, keeps_told}
use Rattle.rs_sqlite.proofs.telling_keeper.TellingKeeper.open.Goals as goal

pub new-requires : goal.new-requires
new-requires g c =
    let keeper = c.in_ok-open.field-0 in
    let opens = c.requires.opens in
    keeps_told g.S.Store keeper opens.0 (c.in_ok-open.ensures.rows opens.0 opens.1 (g.met.S.Steadfast.clean keeper.connection.store))

pub returns-clause-rows : goal.returns-clause-rows
returns-clause-rows g c rows opens =
    let keeper = c.in_ok-open.field-0 in
    ap (λ (k : Keeping g.row.S.Denot). rows_in (state g.S.Store k.connection).now.trees) c.new.ensures
    ∙ told_rows (state g.S.Store keeper.connection) rows (c.in_ok-open.ensures.rows rows opens (g.met.S.Steadfast.clean keeper.connection.store)).holds
