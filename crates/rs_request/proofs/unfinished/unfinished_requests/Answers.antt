use Rattle.rs_request.proofs.UnfinishedLemmas.{unfinished_short, body_short, interim_stays, told_or_not, told_once, begun_unended}
use Rattle.rs_request.proofs.unfinished.unfinished_requests.Goals as goal

pub returns : goal.returns
returns c = record {
  short = unfinished_short;
  body = body_short;
  interim_stays = interim_stays;
  told = told_or_not;
  once = told_once;
  begun = begun_unended;
}
