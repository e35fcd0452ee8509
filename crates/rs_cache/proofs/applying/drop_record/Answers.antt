use Rattle.std.proofs.Common.{not, rules, ◌==◌}
use Rattle.std.proofs.lemmas.Fn.{filter_same}
use Rattle.rs_cache.specs.declared.conflict.Conflict.{Conflict}
use Rattle.rs_cache.proofs.applying.drop_record.Goals as goal

pub returns : goal.returns
returns c = record {
  dropped = filter_same _ (λ (r : Conflict). not (r.n == c.args.n)) _ (λ x b f k. search rules) _ _ c.retain.ensures.filtered;
}
