use Rattle.rs_cache.proofs.ChangeLemmas.{change-made, change-ended, change-none, held-last, held-free}
use Rattle.rs_cache.proofs.DoubtLemmas.{doubts-last, doubts-first}
use Rattle.rs_cache.proofs.laws.change_laws.Goals as goal

pub returns : goal.returns
returns c = record {
  made = change-made;
  ended = change-ended;
  none = change-none;
  held = held-last;
  free = held-free;
  doubts = doubts-last;
  first_doubts = doubts-first;
}
