use Rattle.std.proofs.Common.{◌≡◌, ◌+◌, ◌≤◌, false, length}
use Rattle.rs_rules.specs.CondReadings.{cut_items, list_reading, tags_reading}
use Rattle.rs_rules.proofs.reading.read_tags.Given as goal

abbrev pub invariant-items : goal.invariant-items
invariant-items l = record {
  same : tags_reading l.fn.text ≡ list_reading l.place l.some l.tags (cut_items false l.rest);
  near : l.place + length l.rest ≤ length l.fn.text;
}

abbrev pub decreases-items : goal.decreases-items
decreases-items l = length l.rest
