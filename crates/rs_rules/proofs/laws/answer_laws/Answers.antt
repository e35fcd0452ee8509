use Rattle.rs_rules.specs.Snapshots.{snapshot}
use Rattle.rs_rules.proofs.TakenLaws.{answer_kept, answer-free}
use Rattle.rs_rules.proofs.laws.answer_laws.Goals as goal

pub returns : goal.returns
returns c = record {
  kept = λ h quota r. answer_kept (snapshot h) quota r;
  free = λ h quota call pass reads. answer-free (snapshot h) quota call pass reads;
}
