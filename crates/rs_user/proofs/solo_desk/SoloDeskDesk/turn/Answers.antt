use Rattle.std.proofs.Common.{refl}
use Rattle.rs_user.proofs.TurnLemmas.{sits}
use Rattle.rs_user.proofs.solo_desk.SoloDeskDesk.turn.Goals as goal

pub returns-clause-turned : goal.returns-clause-turned
returns-clause-turned g c h stands =
    let desk = c.args.self.now in
    let quota = desk.state.now.quota in
    sits g.T.Tree.stands c.turn.new.self h quota c.args._user c.args.request.now c.turn.result _ _ _ _ stands.0 stands.2
    (c.turn.ensures.turned h stands.1) (c.growth_laws.ensures.still h 1) (c.growth_laws.ensures.alone h quota 1 c.args.request.now)

pub returns-clause-is_later : goal.returns-clause-is_later
returns-clause-is_later g c = (
  refl,
  refl,
  record {
    served = λ user served. (served.0, c.turn.ensures.count, c.turn.ensures.stands);
    same_quota = c.turn.ensures.quota;
    no_fewer = c.turn.ensures.later;
  },
)
