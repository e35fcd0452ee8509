use Rattle.std.proofs.Common.{arith}
use Rattle.rs_scope.proofs.TokenLemmas.{is_token-from}
use Rattle.rs_scope.proofs.token.Token.of_bytes.Goals as goal

pub invariant_of-result : goal.invariant_of-result
invariant_of-result c =
    rw c.copy_from_slice.ensures.after
    (is_token-from c.args.bytes.now c.requires.sixteen (λ i. let fit = c.type_inv.bytes i in omega (arith, fit)))
