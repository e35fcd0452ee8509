use Rattle.std.proofs.Common.{◌∷◌, refl}
use Rattle.rs_hall.specs.LaterSeats.{seats_go_on}
use Rattle.rs_serve.proofs.MeetLemmas.{seen_more, posts_more, served_more, failed_more}
use Rattle.rs_serve.proofs.meeting.+meet_all.Goals as goal

pub returns-clause-later : goal.returns-clause-later
returns-clause-later g t c = seats_go_on _ _ _ c.meet_worker.ensures.later c.meet_all.ensures.later

pub returns-clause-seen : goal.returns-clause-seen
returns-clause-seen g t c =
    seen_more (λ desk. desk.each.items) c.meet_worker.new.first.seats.each.items c.meet_all.new.first.seats.each.items c.args.workers.now c.in-Some.worker.now
    c.in-Some.rest.now c.in-Some.ensures.cases.0 c.meet_all.ensures.later c.meet_worker.ensures.seen c.meet_all.ensures.seen

pub returns-clause-posts : goal.returns-clause-posts
returns-clause-posts g t c =
    posts_more c.args.workers.now (c.meet_worker.new.worker ∷ c.meet_all.new.workers) c.in-Some.worker.now c.meet_worker.new.worker c.in-Some.rest.now c.meet_all.new.workers c.in-Some.ensures.cases.0 refl
    c.meet_worker.ensures.post c.meet_all.ensures.posts

pub returns-clause-served : goal.returns-clause-served
returns-clause-served g t c =
    served_more c.args.workers.now (c.meet_worker.new.worker ∷ c.meet_all.new.workers) c.in-Some.worker.now c.meet_worker.new.worker c.in-Some.rest.now c.meet_all.new.workers c.in-Some.ensures.cases.0 refl
    c.meet_worker.ensures.end c.meet_all.ensures.served

pub returns-clause-failed : goal.returns-clause-failed
returns-clause-failed g t c =
    failed_more c.args.workers.now (c.meet_worker.new.worker ∷ c.meet_all.new.workers) c.in-Some.worker.now c.meet_worker.new.worker c.in-Some.rest.now c.meet_all.new.workers c.in-Some.ensures.cases.0 refl
    c.meet_worker.ensures.end c.meet_all.ensures.failed
