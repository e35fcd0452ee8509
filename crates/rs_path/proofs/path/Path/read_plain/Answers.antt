use Rattle.rs_path.proofs.RoundTrips.{canonical}
use Rattle.rs_path.proofs.path.Path.read_plain.Goals as goal

pub returns-clause-canonical : goal.returns-clause-canonical
returns-clause-canonical c = canonical _ _ c.read_path.ensures.read
