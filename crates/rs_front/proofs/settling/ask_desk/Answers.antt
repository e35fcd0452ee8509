use Rattle.std.proofs.Common.{◌<◌}
use Rattle.rs_front.proofs.DecideLemmas.{with_history, users_with, all_stand, turned_ok, turned_err}
use Rattle.rs_front.proofs.settling.ask_desk.Goals as goal

pub returns-in-Ok-clause-decides : goal.returns-in-Ok-clause-decides
unfolding users_with
returns-in-Ok-clause-decides g c n low old stands =
    let turned = c.in-Ok.ensures.turned (old c.args.user) (stands c.args.user low) in (
      with_history old c.args.user turned.0,
      all_stand (λ user. user < n) (g.D.Desk.stands c.turn.new.self) old c.args.user turned.0 turned.1
          (λ other apart served. c.in-Ok.ensures.others other (old other) apart (stands other served)),
      turned_ok old (g.D.Desk.quota c.args.desk.now) (g.D.Desk.me c.args.desk.now) c.args.user turned.0 _ c.args.request.now c.in-Ok.turn _ _
          (g.met.D.Desk.keeps _ _ c.in-Ok.ensures.is_later).later turned.2,
    )

pub returns-in-Err-NoMemory-clause-decides : goal.returns-in-Err-NoMemory-clause-decides
unfolding users_with
returns-in-Err-NoMemory-clause-decides g c n low old stands =
    let turned = c.in-Err-NoMemory.ensures.turned (old c.args.user) (stands c.args.user low) in (
      with_history old c.args.user turned.0,
      all_stand (λ user. user < n) (g.D.Desk.stands c.turn.new.self) old c.args.user turned.0 turned.1
          (λ other apart served. c.in-Err-NoMemory.ensures.others other (old other) apart (stands other served)),
      turned_err old (g.D.Desk.quota c.args.desk.now) (g.D.Desk.me c.args.desk.now) c.args.user turned.0 _ c.args.request.now c.in-Err-NoMemory.field-0 _ _
          (g.met.D.Desk.keeps _ _ c.in-Err-NoMemory.ensures.is_later).later turned.2 _,
    )
