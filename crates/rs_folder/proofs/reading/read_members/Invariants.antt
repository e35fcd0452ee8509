use Rattle.std.proofs.Common.{◌≡◌, []}
use Rattle.serde_json.specs.View.{members_view}
use Rattle.rs_folder.specs.FolderReadings.{items_from}
use Rattle.rs_folder.proofs.ReadingLemmas.{Ascend}
use Rattle.rs_folder.proofs.reading.read_members.Given as goal

abbrev pub invariant-loop-key : goal.invariant-loop-key
invariant-loop-key l = record {
  same : items_from [] (members_view l.fn.members.entries) ≡ items_from l.items (members_view l.key-iterator);
  ascend : Ascend l.items l.key-iterator;
}
