use Rattle.std.proofs.Common.{None}
use Rattle.rs_user.proofs.GrantLemmas.{scopes_updated}
use Rattle.rs_user.proofs.granted.Grants.withdraw.Goals as goal

pub returns : goal.returns
returns c = record { scopes = λ other. rw (← c.self.view_is) (scopes_updated c.args.token.now other None c.self.inside.map c.remove.new.self c.remove.ensures.updates) }
