use Rattle.std.proofs.Common.{rules, ◌≡◌, false, get_or, refl, ap, sym, ◌∙◌, subst}
use Rattle.rs_rules.specs.Growth.{Turned}
use Rattle.rs_hall.specs.Halls.{locks_of, by_user, quota_of_origin, quotas_of}
use Rattle.rs_hall.specs.Rooms.{history_of}
use Rattle.rs_hall.proofs.SeatLemmas.{desk_turned, later_with, now_elsewhere, quota_here}
use Rattle.rs_hall.proofs.shared_desk.SharedDeskDesk.turn.Goals as goal

pub invariant_of-self : goal.invariant_of-self
invariant_of-self g c =
    let seats = c.args.self.now.seats.each.items in
    let s = c.index_mut.result.now in
    let is : s ≡ get_or seats c.args.user s = search rules in
    record {
      own = (later_with seats c.args.user s c.ask.new.seat c.requires.served is c.ask.ensures.rest
          c.ask.ensures.begins c.ask.ensures.later).locks ∙ c.args.self.now.own;
    }

pub returns-clause-turned : goal.returns-clause-turned
returns-clause-turned g c h stood =
    let seats = c.args.self.now.seats.each.items in
    let s = c.index_mut.result.now in
    let is : s ≡ get_or seats c.args.user s = search rules in (
      history_of _,
      refl,
      desk_turned seats c.args.user s c.ask.new.seat h (quota_of_origin s.lock.origin) (by_user (quotas_of (locks_of seats)) c.args.user)
          c.args.request.now c.ask.result c.requires.served is stood (quota_here seats c.args.user s c.requires.served is)
          (subst (λ r. Turned (history_of s.list) (history_of c.ask.new.seat.list) (quota_of_origin s.lock.origin) s.who false r c.ask.result s.faults
          c.ask.new.seat.faults) c.in_ok-prepared.ensures.request c.ask.ensures.turned),
    )

pub returns-clause-others : goal.returns-clause-others
returns-clause-others g c other h apart stood =
    stood ∙ sym (ap history_of (now_elsewhere c.args.self.now.seats.each.items c.args.user other c.ask.new.seat apart))

pub returns-clause-is_later : goal.returns-clause-is_later
returns-clause-is_later g c =
    let seats = c.args.self.now.seats.each.items in
    let s = c.index_mut.result.now in
    let is : s ≡ get_or seats c.args.user s = search rules in
    later_with seats c.args.user s c.ask.new.seat c.requires.served is c.ask.ensures.rest
    c.ask.ensures.begins c.ask.ensures.later
