use Rattle.rs_finger.proofs.UserLemmas.{user_text}
use Rattle.rs_finger.proofs.JrdLemmas.{jrd_back, jrd_none}
use Rattle.rs_finger.proofs.QueryLemmas.{answered}
use Rattle.rs_finger.proofs.laws.finger_laws.Goals as goal

pub returns : goal.returns
returns c = record {
  back = λ base user host b u h. jrd_back base user host b (user_text user u) h;
  none = λ base user host b u h. jrd_none base user host b (user_text user u) h;
  answered = answered;
}
