use Rattle.std.proofs.Common.{not, rules}
use Rattle.std.proofs.lemmas.Fn.{filter_same}
use Rattle.rs_path.specs.Paths.{same_path}
use Rattle.rs_plain.specs.declared.write.Write.{Write}
use Rattle.rs_plain.proofs.writes.forget.Goals as goal

pub returns : goal.returns
returns c = record {
  items = filter_same _ (λ (write : Write). not (same_path c.args.path.now write.path)) _ (λ x b f k. search rules) _ _ c.retain.ensures.filtered;
  len = c.retain.ensures.bound;
  capacity = c.retain.ensures.capacity;
}
