use Rattle.std.proofs.Common.{length}
use Rattle.rs_serve.proofs.threads.+serve_late.Given as goal

abbrev pub decreases-serve_late : goal.decreases-serve_late
decreases-serve_late g l = length l.workers.now
