use Rattle.rs_rules.proofs.LawfulLaws.{lawful-front, lawful-with_entry}
use Rattle.rs_rules.proofs.SoundLaws.{distinct-lawful, documents-lawful, live-room}
use Rattle.rs_rules.proofs.laws.lawful_laws.Goals as goal

pub returns : goal.returns
returns c = record {
  front = lawful-front;
  more = lawful-with_entry;
  distinct = distinct-lawful;
  documents = documents-lawful;
  room = live-room;
}
