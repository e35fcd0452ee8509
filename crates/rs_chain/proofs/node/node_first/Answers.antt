use Rattle.std.proofs.Common.{None, sym, ap}
use Rattle.std.specs.Option.{option_map_or}
use Rattle.rs_chain.specs.declared.node.Node.{Node}
use Rattle.rs_chain.proofs.node.node_first.Goals as goal

pub returns : goal.returns
returns c = record { first = sym (ap (λ o. option_map_or (λ (x : Node). x.first) o None) c.index.ensures) }
