use Rattle.rs_folder.proofs.RoundTrips.{folder_back}
use Rattle.rs_folder.proofs.laws.folder_laws.Goals as goal

pub returns : goal.returns
returns c = record { back = folder_back }
