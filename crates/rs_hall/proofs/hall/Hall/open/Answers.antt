use Rattle.rs_hall.proofs.EntranceLemmas.{entered, lockable}
use Rattle.rs_hall.proofs.hall.Hall.open.Goals as goal

pub lock_rooms-requires : goal.lock_rooms-requires
lock_rooms-requires g c = lockable g.T.Tree.stands g.K.Keeper.rows g.K.Keeper.row_count c.in_ok-states.ensures.ready

pub returns-in-Ok-clause-entrances : goal.returns-in-Ok-clause-entrances
returns-in-Ok-clause-entrances g c =
    entered g.T.Tree.stands g.K.Keeper.rows g.K.Keeper.row_count g.K.Keeper.faults c.args.quotas.now c.args.keepers.now.items c.open_states.new.keepers.items
    c.in_ok-states.states.items _ c.in_ok-states.ensures.kept c.in_ok-states.ensures.ready c.in-Ok.ensures.first
