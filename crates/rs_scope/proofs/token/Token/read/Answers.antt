use Rattle.rs_scope.proofs.TokenLemmas.{decoded}
use Rattle.rs_scope.proofs.token.Token.read.Goals as goal

pub invariant_of-result : goal.invariant_of-result
invariant_of-result c = decoded c.args.text.now c.decode_to_slice.new.out c.decode_to_slice.result c.decode_to_slice.ensures.value c.in-Ok.is
