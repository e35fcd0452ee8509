use Rattle.std.proofs.lemmas.Result.{err_from_is_err_and}
use Rattle.rs_exchange.specs.declared.asked.Asked.TheVariants.{Desk}
use Rattle.rs_front.proofs.SettleLemmas.{settles_early, settles_unanswered, settles_by}
use Rattle.rs_front.proofs.settling.settle_request.Goals as goal

pub returns-in_err-room-clause-settles : goal.returns-in_err-room-clause-settles
returns-in_err-room-clause-settles g c n low old stands =
    let p = err_from_is_err_and c.from_residual.result c.from_residual.ensures.1 in
    (old, stands, rw p.1 (settles_early c.args.manner (Desk c.args.user c.args.request.now) old _ _ _ _ _))

pub returns-in_err-answer-clause-settles : goal.returns-in_err-answer-clause-settles
returns-in_err-answer-clause-settles g c n low old stands =
    let decided = c.in_err-answer.ensures.decides n low old stands in
    let p = err_from_is_err_and c.from_residual-in_err-answer.result c.from_residual-in_err-answer.ensures.1 in
    (decided.0, decided.1, rw p.1 (settles_unanswered _ c.args.manner _ old _ _ _ _ decided.2))

pub returns-clause-settles : goal.returns-clause-settles
returns-clause-settles g c n low old stands =
    let decided = c.in_ok-answer.ensures.decides n low old stands in (
      decided.0,
      decided.1,
      settles_by _ c.args.manner c.args.user c.args.request.now old _ _ c.in_ok-answer.answer c.write_answer.result
          (g.met.D.Desk.keeps _ _ c.in_ok-answer.ensures.is_later).later c.write_answer.ensures.bytes c.write_answer.ensures.made decided.2,
    )
