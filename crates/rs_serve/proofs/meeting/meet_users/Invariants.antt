use Rattle.rs_serve.proofs.MeetLemmas.{MeetsSoFar}
use Rattle.rs_serve.proofs.meeting.meet_users.Given as goal

abbrev pub invariant-loop-user : goal.invariant-loop-user
invariant-loop-user g l = MeetsSoFar l.fn.first.seats.each.items l.first.seats.each.items l.fn.other.seats.each.items l.other.seats.each.items l.user
