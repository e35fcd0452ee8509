use Rattle.rs_talk.proofs.AnswerLemmas.{may_come}
use Rattle.rs_talk.proofs.laws.answer_laws.Goals as goal

pub returns : goal.returns
returns c = record { may_come = may_come }
