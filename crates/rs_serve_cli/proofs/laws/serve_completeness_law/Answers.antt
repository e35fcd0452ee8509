use Rattle.rs_serve_cli.proofs.CompletenessOfServing.{serves_well}
use Rattle.rs_serve_cli.proofs.laws.serve_completeness_law.Goals as goal

pub returns : goal.returns
returns g c = record { complete = serves_well _ g.K.Keeper.rows g.K.Keeper.row_count g.K.Keeper.faults }
