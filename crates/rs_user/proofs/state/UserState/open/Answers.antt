use Rattle.rs_user.proofs.OpeningLemmas.{opens_told, begun, stands_made, counted}
use Rattle.rs_user.proofs.state.UserState.open.Goals as goal

pub returns-clause-opened : goal.returns-clause-opened
returns-clause-opened g c = opens_told g.T.Tree.stands c.open_rows.result (g.K.Keeper.rows c.args.keeper.now) c.open_rows.ensures.opened

pub returns-clause-stands : goal.returns-clause-stands
returns-clause-stands g c = stands_made g.T.Tree.stands c.open_rows.result (g.K.Keeper.row_count c.open_rows.new.keeper) c.open_rows.ensures.made

pub returns-clause-begun : goal.returns-clause-begun
returns-clause-begun g c =
    begun g.T.Tree.stands c.open_rows.result (g.K.Keeper.row_count c.open_rows.new.keeper) (g.K.Keeper.rows c.args.keeper.now) c.open_rows.ensures.made c.open_rows.ensures.opened

pub returns-clause-count : goal.returns-clause-count
returns-clause-count g c = counted g.T.Tree.stands c.open_rows.result (g.K.Keeper.row_count c.open_rows.new.keeper) c.open_rows.ensures.made
