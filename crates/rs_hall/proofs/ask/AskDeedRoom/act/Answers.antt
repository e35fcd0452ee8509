use Rattle.rs_hall.specs.Rooms.{history_of}
use Rattle.rs_hall.proofs.RoomLemmas.{acted, rose}
use Rattle.rs_hall.proofs.ask.AskDeedRoom.act.Goals as goal

pub returns-clause-list : goal.returns-clause-list
returns-clause-list g c list is =
    acted g.T.Tree.stands g.K.Keeper.rows g.K.Keeper.row_count c.args.room.now (record { state = c.turn_prepared-answer.new.self; keeper = c.turn_prepared-answer.new.keeper }) list
    c.args.room.now.state.quota c.args.who c.args.self.now.prepared.now c.turn_prepared-answer.result _ _ c.taken_laws.ensures.only is c.turn_prepared-answer.ensures.count
    (c.turn_prepared-answer.ensures.turned (history_of list) is.stands)

pub returns-clause-failed : goal.returns-clause-failed
returns-clause-failed g c is =
    let h = history_of c.requires.0 in
    rose g.T.Tree.stands c.turn_prepared-answer.new.self h c.args.room.now.state.quota c.args.who c.args.self.now.prepared.now c.turn_prepared-answer.result _ _ _ _
    (c.turn_prepared-answer.ensures.turned h c.requires.1.stands) is
