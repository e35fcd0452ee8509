use Rattle.rs_exchange.specs.Replies.{outline_of, reply_bytes}
use Rattle.rs_exchange.proofs.PartLemmas.{whole_reply}
use Rattle.rs_exchange.proofs.reply.write_answer.Goals as goal

pub returns-clause-bytes : goal.returns-clause-bytes
unfolding reply_bytes
returns-clause-bytes c = whole_reply c.args.manner (outline_of c.args.answer) _ _ c.in_ok-head.ensures.head c.sent_body.ensures.body
