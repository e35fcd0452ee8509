use Rattle.rs_cache.proofs.ClientRowLemmas.{opened-len, opened-connected}
use Rattle.rs_cache.proofs.client.Client.open.Goals as goal

pub returns-clause-len : goal.returns-clause-len
returns-clause-len g c = opened-len c.open_rows.result _ c.open_rows.ensures.made

pub returns-clause-connected : goal.returns-clause-connected
returns-clause-connected g c = opened-connected c.open_rows.result _ c.open_rows.ensures.made
