use Rattle.std.proofs.Common.{Some}
use Rattle.rs_user.proofs.GrantLemmas.{scopes_updated}
use Rattle.rs_user.proofs.granted.Grants.add.Goals as goal

pub returns-clause-scopes : goal.returns-clause-scopes
returns-clause-scopes c = λ other. rw (← c.self.view_is) (scopes_updated c.args.token other (Some c.args.scopes) c.self.inside.map c.insert.new.self c.in_ok-insert.ensures.updates)
