use Rattle.std.proofs.Common.{ℕ, false, ap, sym, refl, subst}
use Rattle.rs_rules.specs.Answers.{brought}
use Rattle.rs_rules.specs.Growth.{Turned}
use Rattle.rs_hall.specs.Asks.{is_failed_turn}
use Rattle.rs_hall.specs.Halls.{quota_of_origin}
use Rattle.rs_hall.specs.Rooms.{history_of, IsRoom}
use Rattle.rs_hall.proofs.SeatLemmas.{rose_of, seat_begins, seat_turned}
use Rattle.rs_hall.proofs.shared_desk.ask.Goals as goal

pub returns-clause-begins : goal.returns-clause-begins
returns-clause-begins g c =
    seat_begins (IsRoom g.T.Tree.stands g.K.Keeper.rows g.K.Keeper.row_count) (λ room. room.state.quota) (λ room who. brought c.args.prepared.now)
    c.args.prepared.now c.args.lock.now.origin c.args.seat.now.who c.args.seat.now.list c.with_turn.new.seat.list c.with_turn.new.deed
    c.with_turn.result c.with_turn.ensures.turn

pub returns-clause-turned : goal.returns-clause-turned
returns-clause-turned g c =
    let before = c.args.seat.now.faults in
    let now = c.with_turn.new.seat.faults in
    let turned = seat_turned (IsRoom g.T.Tree.stands g.K.Keeper.rows g.K.Keeper.row_count) (λ room. room.state.quota) (λ room who. brought c.args.prepared.now)
    c.args.prepared.now c.args.lock.now.origin c.args.seat.now.who c.args.seat.now.list c.with_turn.new.seat.list c.with_turn.new.deed
    c.with_turn.result c.with_turn.ensures.turn quota_of_origin before now c.growth_laws.ensures.alone c.growth_laws.ensures.after (λ room. refl)
    (rose_of (is_failed_turn c.with_turn.result) before now c.with_turn.ensures.faults) in
    subst (λ (quota : ℕ). Turned (history_of c.args.seat.now.list) (history_of c.with_turn.new.seat.list) quota c.args.seat.now.who false
    c.args.prepared.now c.with_turn.result before now) (ap (λ lock. quota_of_origin lock.origin) (sym c.requires.lock)) turned
