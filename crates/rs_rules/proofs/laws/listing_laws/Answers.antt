use Rattle.rs_rules.proofs.ListingLaws.{children-members, children-sorted, listed_document, listed_folder}
use Rattle.rs_rules.proofs.ItemLaws.{items-ascending, items-plain}
use Rattle.rs_rules.proofs.RoomLaws.{children-few, full-few}
use Rattle.rs_rules.proofs.laws.listing_laws.Goals as goal

pub returns : goal.returns
returns c = record {
  members = children-members;
  sorted = children-sorted;
  documents = listed_document;
  folders = listed_folder;
  ascending = items-ascending;
  plain = items-plain;
  few = children-few;
  room = full-few;
}
