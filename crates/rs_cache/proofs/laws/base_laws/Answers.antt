use Rattle.rs_cache.proofs.BaseLemmas.{base-last, base-none}
use Rattle.rs_cache.proofs.laws.base_laws.Goals as goal

pub returns : goal.returns
returns c = record { last = base-last; none = base-none }
