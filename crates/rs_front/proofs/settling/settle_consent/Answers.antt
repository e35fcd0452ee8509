use Rattle.std.proofs.lemmas.Result.{err_from_is_err_and}
use Rattle.rs_exchange.specs.declared.asked.Asked.TheVariants.{Consent}
use Rattle.rs_front.proofs.SettleLemmas.{early_drawn, grant_drawn, failed_drawn}
use Rattle.rs_front.proofs.settling.settle_consent.Goals as goal

pub returns-in_err-refused-clause-settles : goal.returns-in_err-refused-clause-settles
returns-in_err-refused-clause-settles g c n low old stands =
    let p = err_from_is_err_and c.from_residual.result c.from_residual.ensures.1 in
    (old, stands, rw p.1 (early_drawn c.args.manner (Consent c.args.user c.args.ask) old _ _ _ _ _ _ _))

pub returns-in-Ok-clause-settles : goal.returns-in-Ok-clause-settles
returns-in-Ok-clause-settles g c n low old stands =
    let granted = c.grant.ensures.granted n low old stands in
    (granted.0, granted.1, grant_drawn _ c.args.manner c.args.user c.args.ask c.in-Ok.token old _ _ _ c.grant.result c.in-Ok.ensures.drawn c.in-Ok.ensures.later granted.2)

pub returns-in-Err-clause-settles : goal.returns-in-Err-clause-settles
returns-in-Err-clause-settles g c n low old stands =
    (old, stands, failed_drawn c.args.manner c.args.user c.args.ask old _ _ _ _ _ c.in_ok-refused.refused c.in-Err.ensures.drawn c.in_ok-refused.ensures.told)
