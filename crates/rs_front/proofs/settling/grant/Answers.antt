use Rattle.std.proofs.Common.{ap, sym, ◌∙◌, Bool, if◌then◌else◌}
use Rattle.std.proofs.lemmas.Result.{err_from_is_err_and}
use Rattle.rs_grant.specs.declared.outcome.Outcome.TheVariants.{Token}
use Rattle.rs_exchange.specs.Grants.{sent_back, not_granted}
use Rattle.rs_exchange.specs.Replies.{reply_bytes}
use Rattle.rs_front.proofs.SettleLemmas.{grant_early, grant_starved, grant_told}
use Rattle.rs_front.proofs.settling.grant.Goals as goal

pub returns-in_err-granted-clause-granted : goal.returns-in_err-granted-clause-granted
returns-in_err-granted-clause-granted g c n low old stands =
    let p = err_from_is_err_and c.from_residual.result c.from_residual.ensures.1 in
    (old, stands, rw p.1 (grant_early c.args.manner c.args.user c.args.ask c.args.token old _ _ _ _ _))

pub returns-in_err-answer-clause-granted : goal.returns-in_err-answer-clause-granted
returns-in_err-answer-clause-granted g c n low old stands =
    let decided = c.in_err-answer.ensures.decides n low old stands in
    let p = err_from_is_err_and c.from_residual-in_err-answer.result c.from_residual-in_err-answer.ensures.1 in
    (decided.0, decided.1, rw p.1 (grant_starved _ c.args.manner c.args.user c.args.ask c.args.token old _ _ _ _ decided.2))

pub returns-then-is_granted-clause-granted : goal.returns-then-is_granted-clause-granted
returns-then-is_granted-clause-granted g c n low old stands =
    let decided = c.in_ok-answer.ensures.decides n low old stands in
    let told = ap (λ (b : Bool). reply_bytes c.args.manner (if b then sent_back c.args.ask (Token c.args.token) else not_granted c.args.ask))
    (sym (sym c.is_granted.ensures.granted ∙ c.if-is_granted.true)) in
    (decided.0, decided.1, grant_told _ c.args.manner c.args.user c.args.ask c.args.token old _ _ c.in_ok-answer.answer c.in_ok-granted.granted (c.in_ok-granted.ensures.told ∙ told) decided.2)

pub returns-clause-granted : goal.returns-clause-granted
returns-clause-granted g c n low old stands =
    let decided = c.in_ok-answer.ensures.decides n low old stands in
    let told = ap (λ (b : Bool). reply_bytes c.args.manner (if b then sent_back c.args.ask (Token c.args.token) else not_granted c.args.ask))
    (sym (sym c.is_granted.ensures.granted ∙ c.if-is_granted.false)) in
    (decided.0, decided.1, grant_told _ c.args.manner c.args.user c.args.ask c.args.token old _ _ c.in_ok-answer.answer c.args.refused (c.requires.refused ∙ told) decided.2)
