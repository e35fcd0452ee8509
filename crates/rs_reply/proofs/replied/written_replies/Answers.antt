use Rattle.std.specs.Prelude.{[]}
use Rattle.std.proofs.lemmas.List.Elements.{All-nil}
use Rattle.rs_reply.specs.Replied.{IsInterim}
use Rattle.rs_reply.proofs.RepliedLemmas.{written_reply_is_spelled, written_reply_is_read}
use Rattle.rs_reply.proofs.replied.written_replies.Goals as goal

pub returns : goal.returns
returns c = record {
  spelled = λ bodiless m r other. written_reply_is_spelled bodiless [] m (All-nil (IsInterim bodiless)) r other;
  read = λ bodiless m r other. written_reply_is_read bodiless [] m (All-nil (IsInterim bodiless)) r other;
  skipped = written_reply_is_read;
}
