use Rattle.std.proofs.Common.{◌≡◌, true, false, sym, ap, ◌∙◌, arith}
use Rattle.rs_finger.specs.Accounts.{host_named, is_named_host}
use Rattle.rs_finger.proofs.AccountLemmas.{named_here, named_past}
use Rattle.rs_finger.proofs.account.user_named.Goals as goal

pub returns-then-is_named : goal.returns-then-is_named
returns-then-is_named c =
    let host = c.args.host.now in
    let resource = c.args.resource.now in
    let user = c.user-item.result in
    let is : is_named_host host (host_named user resource) ≡ true =
    ap (λ xs. is_named_host host (host_named xs resource)) (sym c.as_slice.ensures.bytes) ∙ sym c.is_named.ensures ∙ c.if-is_named.true in
    sym (named_here host resource c.args.users.now c.loop-user.user-index user (omega arith) c.user-item.is is) ∙ c.loop-user.invariant

pub loop-user-preserved : goal.loop-user-preserved
loop-user-preserved c =
    let host = c.args.host.now in
    let resource = c.args.resource.now in
    let user = c.user-item.result in
    let is : is_named_host host (host_named user resource) ≡ false =
    ap (λ xs. is_named_host host (host_named xs resource)) (sym c.as_slice.ensures.bytes) ∙ sym c.is_named.ensures ∙ c.if-is_named.false in
    sym (named_past host resource c.args.users.now c.loop-user.user-index user (omega arith) c.user-item.is is) ∙ c.loop-user.invariant
