use Rattle.std.proofs.Common.{◌≡◌, ◌∙◌, length, arith}
use Rattle.std.proofs.lemmas.Result.{err_from_is_err_and}
use Rattle.rs_serve.proofs.OneLemmas.{nobody_refused, nobody_starved, seats_many, users_served}
use Rattle.rs_serve.proofs.serving.serve_users.Goals as goal

pub serve_hall-requires-clause-users : goal.serve_hall-requires-clause-users
serve_hall-requires-clause-users g c =
    let many : length c.in_ok-hall.seats.each.items ≡ length c.args.quotas.now = (seats_many _ _ _ _ c.in_ok-hall.ensures.entrances).0 in
    omega (arith, many)

pub close-requires : goal.close-requires
close-requires g c = record { own = c.in_ok-seats.ensures.serves.locks ∙ c.in_ok-hall.ensures.hall }

pub returns-in_err-hall-clause-refused : goal.returns-in_err-hall-clause-refused
returns-in_err-hall-clause-refused g c =
    let p = err_from_is_err_and c.from_residual.result c.from_residual.ensures.1 in
    rw p.1 (nobody_refused _ _ _ p.0 _ _ _ _ p.2 c.in_err-hall.ensures.refused)

pub returns-in_err-seats-clause-refused : goal.returns-in_err-seats-clause-refused
returns-in_err-seats-clause-refused g c =
    let p = err_from_is_err_and c.from_residual-in_err-seats.result c.from_residual-in_err-seats.ensures.1 in
    rw p.1 (nobody_starved _ _ _ p.0 _ _ _ _ p.2)

pub returns-in_err-keepers-clause-refused : goal.returns-in_err-keepers-clause-refused
returns-in_err-keepers-clause-refused g c =
    let p = err_from_is_err_and c.from_residual-in_err-keepers.result c.from_residual-in_err-keepers.ensures.1 in
    rw p.1 (nobody_starved _ _ _ p.0 _ _ _ _ p.2)

pub returns-clause-serves : goal.returns-clause-serves
returns-clause-serves g c =
    users_served _ _ _ _ _ _ c.args.quotas.now c.args.keepers.now.items _ c.in_ok-hall.seats.each.items c.in_ok-seats.seats.each.items c.args.posts.now.items
    c.serve_hall.new.posts.items c.in_ok-seats.tally c.in_ok-hall.ensures.entrances c.in_ok-seats.ensures.serves c.in_ok-keepers.ensures.keepers c.requires.users
