use Rattle.std.proofs.Common.{sym}
use Rattle.rs_reply.proofs.ReplySteps.{judged_reply_none}
use Rattle.rs_reply.proofs.reply.read_head.Goals as goal

pub returns-in_default : goal.returns-in_default
returns-in_default c = sym (judged_reply_none c.args.at c.args.end c.args.text.now c.in_default.ensures.none)

pub returns : goal.returns
returns c = sym c.in_ok-head.ensures
