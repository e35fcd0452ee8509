use Rattle.rs_reply.proofs.ReplySpellingLemmas.{spelled_reply_is_read}
use Rattle.rs_reply.proofs.ReplyTakenLemmas.{reply_is_spelled}
use Rattle.rs_reply.proofs.reply_spelling.spelled_replies.Goals as goal

pub returns : goal.returns
returns c = λ bodiless m bytes. (reply_is_spelled bodiless m bytes, spelled_reply_is_read bodiless m bytes)
