use Rattle.rs_serve.proofs.ReturnLemmas.{none_left, one_back, served_back}
use Rattle.rs_serve.proofs.returning.put_back.Goals as goal

pub loop-worker-preserved-in_ok-push : goal.loop-worker-preserved-in_ok-push
loop-worker-preserved-in_ok-push g c =
    one_back c.args.posts.now.items c.loop-worker.posts.items c.push.new.self.items c.args.workers.items c.loop-worker.workers.items c.pop.new.self.items
    c.in-Some.worker c.args.first c.loop-worker.tally c.with-tally-in-Some.result c.loop-worker.invariant c.in-Some.ensures.items c.in_ok-push.ensures.items
    c.with-tally-in-Some.ensures.served c.with-tally-in-Some.ensures.failed

pub loop-worker-preserved : goal.loop-worker-preserved
loop-worker-preserved g c =
    one_back c.args.posts.now.items c.loop-worker.posts.items c.push.new.self.items c.args.workers.items c.loop-worker.workers.items c.pop.new.self.items
    c.in-Some.worker c.args.first c.loop-worker.tally c.with-tally-in-Some.result c.loop-worker.invariant c.in-Some.ensures.items c.in_ok-push.ensures.items
    c.with-tally-in-Some.ensures.served c.with-tally-in-Some.ensures.failed

pub returns-clause-served : goal.returns-clause-served
returns-clause-served g c =
    served_back c.args.posts.now.items c.loop-worker.posts.items c.args.workers.items c.loop-worker.workers.items c.args.first c.loop-worker.tally
    c.loop-worker.invariant
    (none_left c.loop-worker.workers.items c.pop.new.self.items _ c.in_default.ensures.items c.in_default.ensures.cases.0 c.in_default.ensures.rest)
