use Rattle.rs_hall.proofs.AbreastLemmas.{none_left}
use Rattle.rs_hall.proofs.EntranceLemmas.{first_of, last_lockable, locks_all, locks_more, none_locked, some_keeper}
use Rattle.rs_hall.proofs.opening.lock_rooms.Goals as goal

pub loop-state-init : goal.loop-state-init
loop-state-init g c =
    none_locked g.T.Tree.stands g.K.Keeper.rows g.K.Keeper.row_count c.args.keepers.now.items c.args.states.items c.in_ok-locks.locks.items c.in_ok-each.each.items
    c.requires c.in_ok-locks.ensures.items c.in_ok-each.ensures.items

pub unreachable-requires : goal.unreachable-requires
unreachable-requires g c =
    some_keeper g.T.Tree.stands g.K.Keeper.rows g.K.Keeper.row_count c.loop-state.keepers.items c.loop-state.states.items c.pop.new.self.items c.in-Some.state
    c.loop-state.invariant.left (none_left c.loop-state.keepers.items c.pop-in-Some.new.self.items _ c.in_default-pop.ensures.items
    c.in_default-pop.ensures.cases.0 c.in_default-pop.ensures.rest) c.in-Some.ensures.items

pub new-requires : goal.new-requires
new-requires g c =
    (last_lockable g.T.Tree.stands g.K.Keeper.rows g.K.Keeper.row_count c.loop-state.keepers.items c.pop-in-Some.new.self.items c.loop-state.states.items
    c.pop.new.self.items c.in-Some-pop.keeper c.in-Some.state c.loop-state.invariant.left c.in-Some-pop.ensures.items c.in-Some.ensures.items).1

pub loop-state-preserved : goal.loop-state-preserved
loop-state-preserved g c =
    locks_more g.T.Tree.stands g.K.Keeper.rows g.K.Keeper.row_count c.args.keepers.now.items c.args.states.items c.loop-state.keepers.items
    c.pop-in-Some.new.self.items c.loop-state.states.items c.pop.new.self.items c.in-Some-pop.keeper c.in-Some.state c.loop-state.locks.items
    c.push.new.self.items c.in_ok-lock.lock c.loop-state.each.items c.push-in-Some.new.self.items c.in_ok-lock.seat c.loop-state.invariant
    c.in-Some-pop.ensures.items c.in-Some.ensures.items c.in_ok-push.ensures.items c.in_ok-push-2.ensures.items c.in_ok-lock.ensures.seat.0
    (first_of g.T.Tree.stands g.K.Keeper.rows g.K.Keeper.row_count c.in-Some-pop.keeper c.in-Some.state c.in_ok-lock.lock c.in_ok-lock.seat
    c.in_ok-lock.ensures.lock c.in_ok-lock.ensures.seat c.in_ok-lock.ensures.started)

pub returns-clause-hall : goal.returns-clause-hall
returns-clause-hall g c =
    (locks_all g.T.Tree.stands g.K.Keeper.rows g.K.Keeper.row_count c.args.keepers.now.items c.args.states.items c.loop-state.keepers.items c.loop-state.states.items
    c.loop-state.locks.items c.reverse.new.self.items c.loop-state.each.items c.reverse-2.new.self.items c.loop-state.invariant
    (none_left c.loop-state.states.items c.pop.new.self.items _ c.in_default.ensures.items c.in_default.ensures.cases.0 c.in_default.ensures.rest)
    c.reverse.ensures.items c.reverse-2.ensures.items).own_locks

pub returns-clause-first : goal.returns-clause-first
returns-clause-first g c =
    (locks_all g.T.Tree.stands g.K.Keeper.rows g.K.Keeper.row_count c.args.keepers.now.items c.args.states.items c.loop-state.keepers.items c.loop-state.states.items
    c.loop-state.locks.items c.reverse.new.self.items c.loop-state.each.items c.reverse-2.new.self.items c.loop-state.invariant
    (none_left c.loop-state.states.items c.pop.new.self.items _ c.in_default.ensures.items c.in_default.ensures.cases.0 c.in_default.ensures.rest)
    c.reverse.ensures.items c.reverse-2.ensures.items).first

pub returns-clause-taken : goal.returns-clause-taken
returns-clause-taken g c =
    (locks_all g.T.Tree.stands g.K.Keeper.rows g.K.Keeper.row_count c.args.keepers.now.items c.args.states.items c.loop-state.keepers.items c.loop-state.states.items
    c.loop-state.locks.items c.reverse.new.self.items c.loop-state.each.items c.reverse-2.new.self.items c.loop-state.invariant
    (none_left c.loop-state.states.items c.pop.new.self.items _ c.in_default.ensures.items c.in_default.ensures.cases.0 c.in_default.ensures.rest)
    c.reverse.ensures.items c.reverse-2.ensures.items).none
