use Rattle.std.proofs.Common.{rules, ◌≡◌, ◌∙◌, length, true, Some, ap, refl, sym}
use Rattle.rs_serve.proofs.HallLemmas.{locks_many, served_none, served_own}
use Rattle.rs_serve.proofs.MeetLemmas.{seats_of_hall}
use Rattle.rs_serve.proofs.threads.serve_worker.Goals as goal

pub new-desk-requires : goal.new-desk-requires
new-desk-requires g c =
    seats_of_hall (λ desk. desk.each.items) c.args.hall.now.locks.items c.args.worker.now.desk c.in-Some.seats c.in-Some.ensures.value c.requires.hall

pub serve_post-worker-requires-clause-users : goal.serve_post-worker-requires-clause-users
serve_post-worker-requires-clause-users g c =
    let many : length c.new-desk.result.seats.each.items ≡ length c.args.front.now.accounts =
    ap (λ s. length s.each.items) c.new-desk.ensures.seats
    ∙ (sym (locks_many c.in-Some.seats.each.items c.args.hall.now.locks.items
    (seats_of_hall (λ desk. desk.each.items) c.args.hall.now.locks.items c.args.worker.now.desk c.in-Some.seats c.in-Some.ensures.value c.requires.hall))
    ∙ c.requires.users) in
    search rules

pub returns-in_default : goal.returns-in_default
returns-in_default g c = record {
  served = served_none _ _ (λ desk. desk.each.items) c.args.worker.now c.take.new.self (sym c.take.ensures.value ∙ c.in_default.is) c.take.ensures.after;
}

pub returns : goal.returns
returns g c = record {
  served = served_own _ _ (λ desk. desk.each.items) c.args.worker.now
      (record c.args.worker.now { post = c.serve_post-worker.new.post; desk = Some c.into_seats.result; end = c.serve_post-worker.result })
      c.in-Some.seats c.into_seats.result c.new-desk.result.seats.each.items c.serve_post-worker.new.desk.seats.each.items c.in-Some.ensures.value refl
      (ap (λ s. s.each.items) c.new-desk.ensures.seats) (ap (λ s. s.each.items) c.into_seats.ensures) (c.serve_post-worker.ensures.run true);
}
