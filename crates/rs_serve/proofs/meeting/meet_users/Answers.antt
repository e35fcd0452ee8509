use Rattle.rs_serve.proofs.MeetLemmas.{none_met, one_more_met}
use Rattle.rs_serve.proofs.meeting.meet_users.Goals as goal

pub loop-user-init : goal.loop-user-init
loop-user-init g c = none_met c.args.first.now.seats.each.items c.args.other.now.seats.each.items

pub loop-user-preserved : goal.loop-user-preserved
loop-user-preserved g c =
    one_more_met _ _ _ _ _ _ c.loop-user.user c.loop-user.invariant c.meet.ensures.one_list c.meet.ensures.self_later c.meet.ensures.other_later
