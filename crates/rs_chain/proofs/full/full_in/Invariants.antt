use Rattle.std.proofs.Common.{◌≡◌, Some, true, take, drop}
use Rattle.slab.specs.Slab.{ContainsKey}
use Rattle.rs_rules.specs.Contents.{Contents}
use Rattle.rs_rules.specs.Clashes.{full_in, first_front, is_full}
use Rattle.rs_chain.specs.Walks.{front_at, key_at}
use Rattle.rs_rules.specs.Sound.{are_documents}
use Rattle.rs_chain.specs.Shown.{NodesShow}
use Rattle.rs_chain.proofs.full.full_in.Given as goal

abbrev pub invariant-loop-depth : goal.invariant-loop-depth
invariant-loop-depth l = record {
  front : key_at l.nodes l.root (front_at l.path l.depth) ≡ Some l.key;
  there : ContainsKey l.nodes l.key;
  rest : (w : Contents) → NodesShow l.nodes l.root w → are_documents w.docs ≡ true
      → full_in w.docs l.path ≡ first_front (is_full w.docs l.path) (take l.depth l.path.names) (drop l.depth l.path.names);
}
