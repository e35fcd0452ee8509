use Rattle.rs_request.proofs.TakenLemmas.{begins_with, read_where_it_begins, given_begins, begun_is_given, divided_is_spelled, spelled_is_divided}
use Rattle.rs_request.proofs.taken.taken_requests.Goals as goal

pub returns : goal.returns
returns c = record {
  one = λ place bytes m next. (begins_with place bytes m next, read_where_it_begins place bytes m next);
  all = λ ms place bytes end rest. (divided_is_spelled ms place bytes end rest, spelled_is_divided ms place bytes end rest);
  given = given_begins;
  spelled = begun_is_given;
}
