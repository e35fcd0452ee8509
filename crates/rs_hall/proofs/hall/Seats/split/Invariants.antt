use Rattle.std.proofs.Common.{◌≤◌, vec_capacity, vec_len}
use Rattle.rs_hall.proofs.SplitLemmas.{SplitsSoFar}
use Rattle.rs_hall.proofs.hall.Seats.split.Given as goal

abbrev pub invariant-loop-place : goal.invariant-loop-place
invariant-loop-place g l =
    SplitsSoFar l.hall.locks.items l.fn.self.each.items l.self.each.items l.each.items l.place × (vec_len l.fn.self.each ≤ vec_capacity l.each)
