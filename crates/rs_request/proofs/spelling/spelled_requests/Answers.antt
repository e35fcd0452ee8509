use Rattle.rs_request.proofs.SpellingLemmas.{spelled_is_read, no_proper_prefix}
use Rattle.rs_request.proofs.spelling.spelled_requests.Goals as goal

pub returns : goal.returns
returns c = record { read = spelled_is_read; no_prefix = no_proper_prefix }
