use Rattle.rs_reply.proofs.ReplySteps.{judged_reply_parts}
use Rattle.rs_reply.proofs.reply.head_of.Goals as goal

pub returns : goal.returns
returns c =
    judged_reply_parts c.args.at c.args.end c.args.text.now c.args.room.now c.args.spans.now c.requires c.in_ok-fields.fields c.in_ok-fields.ensures
