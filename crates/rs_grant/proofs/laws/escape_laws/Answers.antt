use Rattle.rs_grant.proofs.EscapeLemmas.{pieces, plain}
use Rattle.rs_grant.proofs.laws.escape_laws.Goals as goal

pub returns : goal.returns
returns c = record { pieces = pieces; plain = plain }
