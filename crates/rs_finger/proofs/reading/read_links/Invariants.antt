use Rattle.std.proofs.Common.{◌≡◌, drop}
use Rattle.serde_json.specs.View.{items_view}
use Rattle.rs_finger.specs.JrdReadings.{first_link}
use Rattle.rs_finger.proofs.reading.read_links.Given as goal

abbrev pub invariant-loop-link : goal.invariant-loop-link
invariant-loop-link l = first_link (items_view (drop l.link-index l.links)) ≡ first_link (items_view l.links)
