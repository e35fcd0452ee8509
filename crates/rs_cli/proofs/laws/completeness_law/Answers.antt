use Rattle.rs_cli.proofs.CompletenessLemmas.{complete}
use Rattle.rs_cli.proofs.laws.completeness_law.Goals as goal

pub returns : goal.returns
returns c = record { complete = complete }
