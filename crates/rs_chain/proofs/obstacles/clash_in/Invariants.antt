use Rattle.std.proofs.Common.{◌≡◌, Some, true, take, drop}
use Rattle.slab.specs.Slab.{ContainsKey}
use Rattle.rs_path.specs.Paths.{folder_at}
use Rattle.rs_rules.specs.Contents.{Contents}
use Rattle.rs_rules.specs.Clashes.{first_document}
use Rattle.rs_chain.specs.Walks.{key_at}
use Rattle.rs_chain.specs.Shown.{NodesShow}
use Rattle.rs_chain.proofs.FrontLemmas.{first_left}
use Rattle.rs_chain.proofs.obstacles.clash_in.Given as goal

abbrev pub invariant-loop-depth : goal.invariant-loop-depth
invariant-loop-depth l = record {
  front : key_at l.nodes l.root (folder_at (take l.depth l.path.names)) ≡ Some l.key;
  there : ContainsKey l.nodes l.key;
  rest : (w : Contents) → NodesShow l.nodes l.root w → first_document w.docs l.path.names ≡ first_left w.docs (take l.depth l.path.names) (drop l.depth l.path.names);
}
