use Rattle.std.proofs.Common.{vec_len}
use Rattle.rs_serve.proofs.ReturnLemmas.{PutsBack}
use Rattle.rs_serve.proofs.returning.put_back.Given as goal

abbrev pub invariant-loop-worker : goal.invariant-loop-worker
invariant-loop-worker g l = PutsBack l.fn.posts.items l.posts.items l.fn.workers.items l.workers.items l.fn.first l.tally

abbrev pub decreases-loop-worker : goal.decreases-loop-worker
decreases-loop-worker g l = vec_len l.workers
