use Rattle.std.proofs.Common.{rules}
use Rattle.rs_cli.proofs.GrantLemmas.{grants_missing}
use Rattle.rs_cli.proofs.serving.grant_where_missing.Goals as goal

pub returns-clause-granted : goal.returns-clause-granted
returns-clause-granted g c h ready =
    grants_missing g.T.Tree.stands h c.args.token c.args.scopes _ _ _ _ c.args.state.now c.ask.new.state c.ask.result (search rules) ready
    (c.ask.ensures.asked h ready.stands) (c.ask.ensures.stands h ready.stands) c.ask.ensures.count c.ask.ensures.quota
