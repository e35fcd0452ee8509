use Rattle.rs_user.proofs.TurnLemmas.{stands_after}
use Rattle.rs_user.proofs.state.UserState.turn_prepared.Goals as goal

pub returns-in-Store-clause-stands : goal.returns-in-Store-clause-stands
returns-in-Store-clause-stands g c =
    let stands = c.requires.stands in
    stands_after g.T.Tree.stands c.store.new.self stands.0 c.args.self.now.quota c.args.who _ c.store.result _ _ _ _
    (c.store.ensures.turned stands.0 c.args.who stands.1)

pub returns-in-Grant-clause-stands : goal.returns-in-Grant-clause-stands
returns-in-Grant-clause-stands g c =
    let stands = c.requires.stands in
    stands_after g.T.Tree.stands c.grant_to.new.self stands.0 c.args.self.now.quota c.args.who _ c.grant_to.result _ _ _ _
    (c.grant_to.ensures.turned stands.0 c.args.who stands.1)

pub returns-in-Revoke-clause-stands : goal.returns-in-Revoke-clause-stands
returns-in-Revoke-clause-stands g c =
    let stands = c.requires.stands in
    stands_after g.T.Tree.stands c.revoke_from.new.self stands.0 c.args.self.now.quota c.args.who _ c.revoke_from.result _ _ _ _
    (c.revoke_from.ensures.turned stands.0 c.args.who stands.1)
