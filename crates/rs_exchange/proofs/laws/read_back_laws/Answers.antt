use Rattle.rs_exchange.proofs.ReadBackLemmas.{answer_read_back, starved_read_back, fault_read_back}
use Rattle.rs_exchange.proofs.laws.read_back_laws.Goals as goal

pub returns : goal.returns
returns c =
    let read = c.written_replies.ensures.read in
    let skipped = c.written_replies.ensures.skipped in record {
      answers = answer_read_back read skipped;
      starved = starved_read_back read skipped;
      faults = fault_read_back read skipped;
    }
