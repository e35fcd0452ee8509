use Rattle.std.proofs.Common.{◌≡◌, ◌+◌, ◌≤◌, length, vec_len}
use Rattle.rs_hall.specs.Halls.{locks_of}
use Rattle.rs_serve.specs.Staffs.{Staffed}
use Rattle.rs_serve.proofs.staffing.staff.Given as goal

abbrev pub invariant-loop-post : goal.invariant-loop-post
invariant-loop-post g l = record {
  staffed : Staffed l.fn.first.each.items l.first.each.items l.fn.posts.items l.posts.items l.workers.items (λ desk. desk.each.items);
  hall : locks_of l.first.each.items ≡ l.hall.locks.items;
  place : l.place + length l.posts.items ≤ 64;
}

abbrev pub decreases-loop-post : goal.decreases-loop-post
decreases-loop-post g l = vec_len l.posts
