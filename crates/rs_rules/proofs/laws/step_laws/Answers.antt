use Rattle.std.proofs.Common.{ap}
use Rattle.rs_rules.specs.Contents.{Contents}
use Rattle.rs_rules.specs.Listings.{items_in}
use Rattle.rs_rules.proofs.Replay.{len-with_entry}
use Rattle.rs_rules.proofs.StepLaws.{docs-with_entry, contents-with_entry, scopes_of-with_entry}
use Rattle.rs_rules.proofs.laws.step_laws.Goals as goal

pub returns : goal.returns
returns c = record {
  length = len-with_entry;
  documents = docs-with_entry;
  contents = contents-with_entry;
  scopes = scopes_of-with_entry;
  items = λ h e folder. ap (λ (w : Contents). items_in w folder) (contents-with_entry h e);
}
