use Rattle.std.proofs.Common.{◌≡◌, false, Ok, subst}
use Rattle.rs_exchange.specs.declared.answer.Answer.TheVariants.{Decided}
use Rattle.rs_exchange.specs.FixedReplies.{starved_message, starved_bytes, closing_message, fault_bytes}
use Rattle.rs_exchange.specs.Replies.{reply_bytes, reply_message}
use Rattle.rs_reply.specs.Replies.{reply_of}
use Rattle.rs_talk.specs.declared.answer.Answer.TheVariants.{Status}
use Rattle.rs_accord.proofs.AnsweredLemmas.{read_by, decided_read, starved_said, refused_said}
use Rattle.rs_accord.proofs.answered.answered_laws.Goals as goal

pub returns : goal.returns
returns c = record {
  decided = λ manner ask reply whole may sends listed.
      decided_read manner ask reply (reply_bytes manner (Decided reply)) c.folder_laws.ensures.back whole may sends listed
      (subst (λ none. reply_of none (reply_bytes manner (Decided reply)) ≡ Ok (reply_message manner (Decided reply))) whole
      (c.read_back_laws.ensures.answers manner (Decided reply) sends).alone);
  starved = λ closing ask.
      read_by ask (starved_bytes closing) (starved_message closing) (Status 503) (c.read_back_laws.ensures.starved false closing).alone (starved_said closing ask);
  refused = λ ask why status is.
      read_by ask (fault_bytes why) (closing_message status) (Status status) (c.read_back_laws.ensures.faults false why status is).alone (refused_said ask why status is);
}
