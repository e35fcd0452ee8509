use Rattle.rs_cache.proofs.KeptLemmas.{kept-last, kept-ended, kept-none}
use Rattle.rs_cache.proofs.laws.kept_laws.Goals as goal

pub returns : goal.returns
returns c = record { kept = kept-last; ended = kept-ended; none = kept-none }
