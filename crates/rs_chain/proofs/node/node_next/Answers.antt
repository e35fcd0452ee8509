use Rattle.std.proofs.Common.{None, sym, ap}
use Rattle.std.specs.Option.{option_map_or}
use Rattle.rs_chain.specs.declared.node.Node.{Node}
use Rattle.rs_chain.proofs.node.node_next.Goals as goal

pub returns : goal.returns
returns c = record { next = sym (ap (λ o. option_map_or (λ (x : Node). x.next) o 0) c.index.ensures) }
