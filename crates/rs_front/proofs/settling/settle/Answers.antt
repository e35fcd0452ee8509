use Rattle.std.proofs.Common.{length, ◌<◌}
use Rattle.std.proofs.lemmas.Result.{err_from_is_err_and}
use Rattle.rs_exchange.specs.Asking.{AsksOf}
use Rattle.rs_front.proofs.SettleLemmas.{served_by, early_drawn, settles_as}
use Rattle.rs_front.proofs.settling.settle.Goals as goal

pub returns-in_err-asked-clause-settles : goal.returns-in_err-asked-clause-settles
returns-in_err-asked-clause-settles g c old stands =
    let p = err_from_is_err_and c.from_residual.result c.from_residual.ensures.1 in
    (old, stands, rw p.1 (early_drawn c.args.manner _ old _ _ _ _ _ _ _))

pub returns-clause-settles : goal.returns-clause-settles
returns-clause-settles g c old stands =
    let low : AsksOf (λ user. user < length c.args.config.now.accounts) c.in_ok-asked.asked = rw c.in_ok-asked.ensures.asked c.requires.user in
    let settled = c.settle_asked.ensures.settles (length c.args.config.now.accounts) low old stands in
    (settled.0, settled.1, settles_as _ c.args.manner c.in_ok-asked.asked _ old _ _ _ _ c.in_ok-asked.ensures.asked settled.2)

pub settle_asked-requires-clause-served : goal.settle_asked-requires-clause-served
settle_asked-requires-clause-served g c =
    served_by (λ user. user < length c.args.config.now.accounts) (g.D.Desk.serves c.args.desk.now) c.in_ok-asked.asked c.requires.served
    (rw c.in_ok-asked.ensures.asked c.requires.user)

pub settle_asked-requires-clause-short : goal.settle_asked-requires-clause-short
settle_asked-requires-clause-short g c = rw c.in_ok-asked.ensures.asked c.requires.short
