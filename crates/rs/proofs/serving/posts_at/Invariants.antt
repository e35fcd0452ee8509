-- Each number so far has its post.
use Rattle.std.proofs.Common.{◌≡◌, ◌+◌, ◌-◌, length}
use Rattle.rs.proofs.serving.posts_at.Given as goal

abbrev pub invariant-loop : goal.invariant-loop
invariant-loop l = length l.posts.items ≡ l.counter
