use Rattle.std.proofs.Common.{rules, ◌≡◌, ◌∙◌, ap, sym}
use Rattle.rs_hall.specs.Halls.{locks_of}
use Rattle.rs_serve.proofs.MeetLemmas.{saw_desk, saw_none, seats_of_hall}
use Rattle.rs_serve.proofs.meeting.meet_worker.Goals as goal

pub returns-in_default-clause-seen : goal.returns-in_default-clause-seen
returns-in_default-clause-seen g c =
    saw_none (λ desk. desk.each.items) c.args.first.now.seats.each.items c.args.worker.now.desk (sym c.take.ensures.value ∙ c.in_default.is)

pub new-desk-requires : goal.new-desk-requires
new-desk-requires g c =
    seats_of_hall (λ desk. desk.each.items) c.args.hall.now.locks.items c.args.worker.now.desk c.in-Some.seats c.in-Some.ensures.value c.requires.hall

pub meet_users-requires-clause-one_hall : goal.meet_users-requires-clause-one_hall
meet_users-requires-clause-one_hall g c =
    let same : locks_of c.new-desk.result.seats.each.items ≡ locks_of c.args.first.now.seats.each.items =
    ap (λ s. locks_of s.each.items) c.new-desk.ensures.seats
    ∙ (seats_of_hall (λ desk. desk.each.items) c.args.hall.now.locks.items c.args.worker.now.desk c.in-Some.seats c.in-Some.ensures.value c.requires.hall
    ∙ sym c.requires.own) in
    search rules

pub returns-clause-seen : goal.returns-clause-seen
returns-clause-seen g c =
    saw_desk (λ desk. desk.each.items) c.meet_users.new.first.seats.each.items c.new-desk.result.seats.each.items c.args.worker.now.desk c.in-Some.seats
    c.in-Some.ensures.value (ap (λ s. s.each.items) c.new-desk.ensures.seats) c.meet_users.ensures.seen
