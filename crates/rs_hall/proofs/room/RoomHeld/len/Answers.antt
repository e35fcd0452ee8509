use Rattle.std.proofs.Common.{length, ◌∙◌, zero-add}
use Rattle.rs_hall.specs.Rooms.{history_of}
use Rattle.rs_hall.proofs.room.RoomHeld.len.Goals as goal

pub returns : goal.returns
returns g c list is = c.len.ensures.len (history_of list) is.stands ∙ zero-add (length list)
