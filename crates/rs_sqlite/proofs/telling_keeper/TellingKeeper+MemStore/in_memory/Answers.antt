use Rattle.std.proofs.Common.{[]}
use Rattle.sqlite.specs.Held.{state}
use Rattle.sqlite.specs.Steps.{over_memory}
use Rattle.rs_sqlite.proofs.TellingLemmas.{nothing_yet}
use Rattle.rs_sqlite.proofs.telling_keeper.TellingKeeper+MemStore.in_memory.Goals as goal

pub returns-clause-rows : goal.returns-clause-rows
returns-clause-rows c = c.open.ensures.rows [] (nothing_yet (state over_memory c.in_ok-open_in_memory.field-0) c.in_ok-open_in_memory.ensures.empty)
