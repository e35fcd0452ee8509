use Rattle.rs_rules.proofs.GrowthLaws.{grows-alone, others-itself, others-trans, grows-after_others, front-Grows, front-trans}
use Rattle.rs_rules.proofs.laws.growth_laws.Goals as goal

pub returns : goal.returns
returns c = record {
  alone = grows-alone;
  still = others-itself;
  others = others-trans;
  after = grows-after_others;
  prefix = front-Grows;
  joined = front-trans;
}
