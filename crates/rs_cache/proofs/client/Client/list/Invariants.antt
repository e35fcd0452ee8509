use Rattle.std.specs.Prelude.{option_copied}
use Rattle.rs_cache.specs.Lists.{still_to_come}
use Rattle.rs_cache.proofs.ListLemmas.{IsListing}
use Rattle.rs_cache.proofs.client.Client.list.Given as goal

abbrev pub invariant-loop-next : goal.invariant-loop-next
invariant-loop-next l = IsListing l.self l.folder l.children.keys (option_copied l.next)

abbrev pub decreases-loop-next : goal.decreases-loop-next
decreases-loop-next l = still_to_come l.self (option_copied l.next)
