use Rattle.rs_hall.proofs.AbreastLemmas.{none_left}
use Rattle.rs_hall.proofs.ClosingLemmas.{closes_all, closes_more, last_locks, none_closed, some_seat}
use Rattle.rs_hall.proofs.hall.Hall.close.Goals as goal

pub loop-lock-init : goal.loop-lock-init
loop-lock-init g c =
    none_closed g.T.Tree.stands g.K.Keeper.rows g.K.Keeper.row_count c.args.self.locks.items c.args.seats.each.items c.in_ok-keepers.keepers.items
    c.requires.own c.in_ok-keepers.ensures.items

pub unreachable-requires : goal.unreachable-requires
unreachable-requires g c =
    some_seat g.T.Tree.stands g.K.Keeper.rows g.K.Keeper.row_count c.loop-lock.locks.items c.pop.new.self.items c.in-Some.lock c.loop-lock.each.items c.loop-lock.invariant.locks_are c.in-Some.ensures.items
    (none_left c.loop-lock.each.items c.pop-in-Some.new.self.items _ c.in_default-pop.ensures.items c.in_default-pop.ensures.cases.0
    c.in_default-pop.ensures.rest)

pub close-room-requires : goal.close-room-requires
close-room-requires g c =
    (last_locks g.T.Tree.stands g.K.Keeper.rows g.K.Keeper.row_count c.loop-lock.locks.items c.pop.new.self.items c.in-Some.lock c.loop-lock.each.items c.pop-in-Some.new.self.items c.in-Some-pop.seat
    c.loop-lock.invariant.locks_are c.in-Some.ensures.items c.in-Some-pop.ensures.items).1

pub loop-lock-preserved : goal.loop-lock-preserved
loop-lock-preserved g c =
    closes_more g.T.Tree.stands g.K.Keeper.rows g.K.Keeper.row_count c.args.seats.each.items c.loop-lock.locks.items c.pop.new.self.items c.in-Some.lock
    c.loop-lock.each.items c.pop-in-Some.new.self.items c.in-Some-pop.seat c.loop-lock.keepers.items c.push.new.self.items c.close-room.result
    c.loop-lock.invariant c.in-Some.ensures.items c.in-Some-pop.ensures.items c.in_ok-push.ensures.items c.close-room.ensures.basis c.close-room.ensures.list

pub returns : goal.returns
returns g c = record {
  keepers =
      closes_all g.T.Tree.stands g.K.Keeper.rows g.K.Keeper.row_count c.args.seats.each.items c.loop-lock.locks.items c.loop-lock.each.items
      c.loop-lock.keepers.items c.reverse.new.self.items c.loop-lock.invariant
      (none_left c.loop-lock.locks.items c.pop.new.self.items _ c.in_default.ensures.items c.in_default.ensures.cases.0 c.in_default.ensures.rest)
      c.reverse.ensures.items;
}
