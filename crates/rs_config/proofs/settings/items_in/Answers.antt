use Rattle.std.proofs.Common.{◌∙◌, ap, map, option_map, Some, sym}
use Rattle.toml.specs.View.{view}
use Rattle.rs_config.specs.ServeSettings.{list_of_items}
use Rattle.rs_config.proofs.ValueLemmas.{listed_items}
use Rattle.rs_config.proofs.settings.items_in.Goals as goal

pub returns-in-Some : goal.returns-in-Some
returns-in-Some c = record {
  items = rw c.as_slice.ensures.value (ap Some (sym (listed_items (map view c.in-Some.values.now.items))) ∙ ap (option_map list_of_items) c.in-Some.ensures);
}
