use Rattle.rs_rules.proofs.TakenLaws.{taken-brought, taken-may_follow, taken-room, taken-lawful, reach_put, reach_remove}
use Rattle.rs_rules.proofs.laws.taken_laws.Goals as goal

pub returns : goal.returns
returns c = record {
  only = taken-brought;
  may = taken-may_follow;
  room = taken-room;
  lawful = taken-lawful;
  reach_put = reach_put;
  reach_remove = reach_remove;
}
