use Rattle.std.proofs.Common.{◌≡◌, ◌+◌, sym, ◌∙◌, subst, arith}
use Rattle.rs_grant.proofs.PasswordLemmas.{Compared, Compared-first, Compared-step, Compared-all}
use Rattle.rs_grant.proofs.password.is_same.Goals as goal

pub loop-i-init : goal.loop-i-init
loop-i-init c = Compared-first c.args.digest.now c.args.secret.now

pub loop-i-preserved : goal.loop-i-preserved
loop-i-preserved c = subst (Compared c.args.digest.now c.args.secret.now (c.loop-i.i + 1)) (sym c.more_where-differing.ensures) (Compared-step c.args.digest.now c.args.secret.now c.loop-i.i c.loop-i.differing c.loop-i.invariant)

pub returns : goal.returns
returns c =
    let end : c.loop-i.i ≡ 32 = omega arith in
    Compared-all c.args.digest.now c.args.secret.now c.loop-i.i c.loop-i.differing c.loop-i.invariant (c.told-digest ∙ sym end) (c.told-secret ∙ sym end)
