use Rattle.std.proofs.Common.{rules, ◌≡◌, ◌<◌, length, get_or, ap, sym, subst, ◌∙◌, ℕ}
use Rattle.rs_hall.specs.LaterSeats.{as_many_seats}
use Rattle.rs_hall.proofs.SeatLemmas.{has_met, now_at}
use Rattle.rs_hall.proofs.shared_desk.SharedDesk.meet.Goals as goal

pub returns-clause-self_later : goal.returns-clause-self_later
returns-clause-self_later g c =
    let seats = c.args.self.now.seats.each.items in
    let s = c.index_mut.result.now in
    let is : s ≡ get_or seats c.args.user s = search rules in
    has_met seats c.args.user s c.meet.new.one c.meet.new.one.list c.requires.user is c.meet.ensures.one c.meet.ensures.begins.0 c.meet.ensures.mine.0

pub returns-clause-other_later : goal.returns-clause-other_later
returns-clause-other_later g c =
    let seats = c.args.other.now.seats.each.items in
    let s = c.index_mut-2.result.now in
    let is : s ≡ get_or seats c.args.user s = search rules in
    let few : c.args.user < length seats =
    subst (λ (n : ℕ). c.args.user < n) (sym (as_many_seats seats c.args.self.now.seats.each.items c.requires.one_hall)) c.requires.user in
    has_met seats c.args.user s c.meet.new.other c.meet.new.one.list few is c.meet.ensures.other c.meet.ensures.begins.1 c.meet.ensures.mine.1

pub invariant_of-self : goal.invariant_of-self
invariant_of-self g c =
    let seats = c.args.self.now.seats.each.items in
    let s = c.index_mut.result.now in
    let is : s ≡ get_or seats c.args.user s = search rules in
    record {
      own = (has_met seats c.args.user s c.meet.new.one c.meet.new.one.list c.requires.user is c.meet.ensures.one c.meet.ensures.begins.0
          c.meet.ensures.mine.0).later.locks ∙ c.args.self.now.own;
    }

pub invariant_of-other : goal.invariant_of-other
invariant_of-other g c =
    let seats = c.args.other.now.seats.each.items in
    let s = c.index_mut-2.result.now in
    let is : s ≡ get_or seats c.args.user s = search rules in
    let few : c.args.user < length seats =
    subst (λ (n : ℕ). c.args.user < n) (sym (as_many_seats seats c.args.self.now.seats.each.items c.requires.one_hall)) c.requires.user in
    record {
      own = (has_met seats c.args.user s c.meet.new.other c.meet.new.one.list few is c.meet.ensures.other c.meet.ensures.begins.1
          c.meet.ensures.mine.1).later.locks ∙ c.args.other.now.own;
    }

pub returns-clause-one_list : goal.returns-clause-one_list
returns-clause-one_list g c =
    let seats = c.args.other.now.seats.each.items in
    let few : c.args.user < length seats =
    subst (λ (n : ℕ). c.args.user < n) (sym (as_many_seats seats c.args.self.now.seats.each.items c.requires.one_hall)) c.requires.user in
    now_at seats c.args.user c.meet.new.other few ∙ (ap (λ x. x.list) c.meet.ensures.other
    ∙ sym (now_at c.args.self.now.seats.each.items c.args.user c.meet.new.one c.requires.user))

pub returns-clause-length : goal.returns-clause-length
returns-clause-length g c =
    c.meet.ensures.length ∙ ap length (sym (now_at c.args.self.now.seats.each.items c.args.user c.meet.new.one c.requires.user))
