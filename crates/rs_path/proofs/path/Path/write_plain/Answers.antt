use Rattle.rs_path.proofs.RoundTrips.{plain_reading-plain_text}
use Rattle.rs_path.proofs.TextLemmas.{length-plain_text}
use Rattle.rs_path.proofs.path.Path.write_plain.Goals as goal

pub returns-in_err-extend_from_slice-clause-back : goal.returns-in_err-extend_from_slice-clause-back
returns-in_err-extend_from_slice-clause-back c = rw (← c.self.view_is) (plain_reading-plain_text _ c.self.invariant.path)

pub returns-clause-back : goal.returns-clause-back
returns-clause-back c = rw (← c.self.view_is) (plain_reading-plain_text _ c.self.invariant.path)

pub returns-in_err-extend_from_slice-clause-short : goal.returns-in_err-extend_from_slice-clause-short
returns-in_err-extend_from_slice-clause-short c = rw (← c.self.view_is) (length-plain_text _ c.self.invariant.path)

pub returns-clause-short : goal.returns-clause-short
returns-clause-short c = rw (← c.self.view_is) (length-plain_text _ c.self.invariant.path)
