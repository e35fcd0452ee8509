use Rattle.std.proofs.Common.{sym, arith}
use Rattle.rs_request.proofs.HeadLemmas.{judged_none}
use Rattle.rs_request.proofs.RequestLemmas.{request_none, field_room}
use Rattle.rs_request.proofs.head.read_any_head.Goals as goal

pub returns-in_default : goal.returns-in_default
returns-in_default c =
    let text = c.args.text.now in
    sym (judged_none c.args.place text (request_none text (λ h reads.
    let many = c.in_default.ensures.none h reads in
    let few = field_room text h reads in
    omega (arith, many, few, c.deref_mut.ensures.len, c.in_ok-room.ensures.len))))
