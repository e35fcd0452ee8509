use Rattle.std.proofs.Common.{sym}
use Rattle.rs_user.proofs.FrontLemmas.{full_bound}
use Rattle.rs_user.proofs.limits.refused_room.Goals as goal

pub folder_front-requires : goal.folder_front-requires
folder_front-requires g c =
    let room = c.requires.room in
    record { few = full_bound room.0.docs c.args.call.now.path c.in-Some.count (sym (c.in-Some.ensures.full room.0 room.1)) }
