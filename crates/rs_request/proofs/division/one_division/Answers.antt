use Rattle.rs_request.proofs.DivisionLemmas.{one_division, divides_within, divides_grows, divides_push, next_message}
use Rattle.rs_request.proofs.division.one_division.Goals as goal

pub returns : goal.returns
returns c = record {
  one = one_division;
  within = divides_within;
  grows = divides_grows;
  push = divides_push;
  next = next_message;
}
