use Rattle.rs_request.proofs.WrittenLemmas.{written_is_spelled, written_is_read, written_is_answered}
use Rattle.rs_request.proofs.StreamLemmas.{written_are_read}
use Rattle.rs_request.proofs.written.written_requests.Goals as goal

pub returns : goal.returns
returns c = record {
  spelled = written_is_spelled;
  read = written_is_read;
  answered = written_is_answered;
  stream = written_are_read;
}
