use Rattle.rs_cache.proofs.RecordLemmas.{record-made, record-resolved, record-numbers}
use Rattle.rs_cache.proofs.laws.record_laws.Goals as goal

pub returns : goal.returns
returns c = record { made = record-made; resolved = record-resolved; numbers = record-numbers }
