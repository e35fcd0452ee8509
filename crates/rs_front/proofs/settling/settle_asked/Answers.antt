use Rattle.std.proofs.Common.{◌<◌, subst}
use Rattle.rs_exchange.specs.Asking.{AsksOf}
use Rattle.rs_front.proofs.SettleLemmas.{request_drawn, now_drawn, settles_now}
use Rattle.rs_front.proofs.settling.settle_asked.Goals as goal

pub returns-in-Desk-clause-settles : goal.returns-in-Desk-clause-settles
returns-in-Desk-clause-settles g c n low old stands =
    let settled = c.settle_request.ensures.settles n (subst (AsksOf (λ user. user < n)) c.in-Desk.is low) old stands in
    rw c.in-Desk.is (settled.0, settled.1, request_drawn _ c.args.manner c.in-Desk.user _ old _ _ _ _ c.settle_request.result settled.2)

pub returns-in-Now-clause-settles : goal.returns-in-Now-clause-settles
returns-in-Now-clause-settles g c n low old stands =
    rw c.in-Now.is (
      old,
      stands,
      now_drawn _ c.args.manner c.in-Now.answer old _ _ _ _ c.reply_with.result
          (settles_now c.args.manner c.in-Now.answer old _ _ _ _ c.reply_with.result c.reply_with.ensures.bytes),
    )

pub returns-in-Consent-clause-settles : goal.returns-in-Consent-clause-settles
returns-in-Consent-clause-settles g c n low old stands =
    rw c.in-Consent.is (c.settle_consent.ensures.settles n (subst (AsksOf (λ user. user < n)) c.in-Consent.is low) old stands)
