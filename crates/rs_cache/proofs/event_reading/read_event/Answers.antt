use Rattle.std.proofs.Common.{arith}
use Rattle.rs_cache.proofs.CanonLemmas.{event_ok}
use Rattle.rs_cache.proofs.event_reading.read_event.Goals as goal

pub returns-clause-canonical : goal.returns-clause-canonical
returns-clause-canonical c =
    event_ok c.args.row.now c.in_ok-event.event (λ i. let fit = c.type_inv.row i in omega (arith, fit)) c.in_ok-event.ensures.read
