use Rattle.std.proofs.Common.{◌∙◌, false}
use Rattle.rs_hall.specs.LaterSeats.{as_many_seats}
use Rattle.rs_serve.proofs.threads.serve_if_late.Goals as goal

pub returns-clause-users : goal.returns-clause-users
returns-clause-users g c =
    as_many_seats c.serve_post-worker.new.desk.seats.each.items c.args.desk.now.seats.each.items (c.serve_post-worker.ensures.run false).later.locks
    ∙ c.requires.users
