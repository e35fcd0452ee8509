use Rattle.rs_scope.proofs.TokenLemmas.{token_reading-text}
use Rattle.rs_scope.proofs.token.Token.digits.Goals as goal

pub returns-clause-back : goal.returns-clause-back
returns-clause-back c = rw (← c.self.view_is) (token_reading-text _ c.self.invariant)
