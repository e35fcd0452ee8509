use Rattle.std.proofs.Common.{◌≡◌, Some, drop}
use Rattle.slab.specs.Slab.{ContainsKey}
use Rattle.rs_chain.specs.Walks.{child_in, way, steps_of, front_at, key_at}
use Rattle.rs_chain.proofs.walk.deepest.Given as goal

abbrev pub invariant-loop-depth : goal.invariant-loop-depth
invariant-loop-depth l = record {
  front : key_at l.nodes l.root (front_at l.path l.depth) ≡ Some l.key;
  there : ContainsKey l.nodes l.key;
  rest : key_at l.nodes l.root l.path ≡ way (child_in l.nodes) l.key (steps_of (drop l.depth l.path.names) l.path.folder);
}
