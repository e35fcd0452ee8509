use Rattle.std.proofs.Common.{[], ap, subst, sym}
use Rattle.rs_rules.specs.Snapshots.{Snapshot}
use Rattle.rs_rules.specs.Answers.{answer_in}
use Rattle.rs_rules.specs.Lawful.{AllFollow}
use Rattle.rs_rules.proofs.LawfulLaws.{with_entries-none}
use Rattle.rs_rules.proofs.SettleLaws.{snapshot-settle, follow-settled}
use Rattle.rs_rules.proofs.laws.settle_law.Goals as goal

pub returns : goal.returns
returns c = record {
  shows = snapshot-settle;
  answers = λ h n m quota r point later. ap (λ (s : Snapshot). answer_in s quota r) (snapshot-settle h n m point later);
  follow = λ h more each. follow-settled h [] more (subst (λ g. AllFollow g more) (sym (with_entries-none h)) each);
}
