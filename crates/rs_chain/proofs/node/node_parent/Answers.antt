use Rattle.std.proofs.Common.{None, sym, ap}
use Rattle.std.specs.Option.{option_map_or}
use Rattle.rs_chain.specs.declared.node.Node.{Node}
use Rattle.rs_chain.proofs.node.node_parent.Goals as goal

pub returns : goal.returns
returns c = record { parent = sym (ap (λ o. option_map_or (λ (x : Node). x.parent) o None) c.index.ensures) }
