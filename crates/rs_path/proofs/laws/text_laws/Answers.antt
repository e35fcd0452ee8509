use Rattle.rs_path.proofs.RoundTrips.{same_from_plain_text}
use Rattle.rs_path.proofs.PrefixLemmas.{starts_with-plain_text}
use Rattle.rs_path.proofs.TextLemmas.{length-plain_text, is_utf8-plain_text, target_bytes}
use Rattle.rs_path.proofs.laws.text_laws.Goals as goal

pub returns : goal.returns
returns c = record {
  apart = same_from_plain_text;
  prefix = starts_with-plain_text;
  short = length-plain_text;
  utf8 = is_utf8-plain_text;
  target = target_bytes;
}
