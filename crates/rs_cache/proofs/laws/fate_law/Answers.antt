use Rattle.rs_cache.proofs.FateLemmas.{fate-holds}
use Rattle.rs_cache.proofs.laws.fate_law.Goals as goal

pub returns : goal.returns
returns c = record { fate = fate-holds }
