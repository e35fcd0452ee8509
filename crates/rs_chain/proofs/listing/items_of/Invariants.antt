use Rattle.std.proofs.Common.{◌≡◌, map, take}
use Rattle.std.specs.List.{AllByRecursion}
use Rattle.rs_chain.specs.NodeItems.{node_item}
use Rattle.rs_chain.proofs.KidLemmas.{NamedAt}
use Rattle.rs_chain.proofs.listing.items_of.Given as goal

abbrev pub invariant-loop-key : goal.invariant-loop-key
invariant-loop-key l = record {
  items : l.items ≡ map (node_item l.nodes) (take l.key-index l.kids);
  named : AllByRecursion (NamedAt l.nodes) (take l.key-index l.kids);
}
