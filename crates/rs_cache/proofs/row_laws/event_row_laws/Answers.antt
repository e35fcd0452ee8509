use Rattle.rs_cache.proofs.EventLemmas.{event_back, event_same, event_more}
use Rattle.std.proofs.Common.{◌∷◌}
use Rattle.rs_cache.proofs.row_laws.event_row_laws.Goals as goal

pub returns : goal.returns
returns c = record { back = event_back; same = event_same; surplus = λ event byte more is. event_more event (byte ∷ more) is }
