use Rattle.std.proofs.Common.{◌≡◌, ℕ, false, true, List, Some}
use Rattle.slab.specs.Slab.{slab_len}
use Rattle.rs_path.specs.Paths.{Path, is_nil, folder_at}
use Rattle.rs_path.specs.Below.{is_below}
use Rattle.rs_chain.specs.Climbs.{AreLinked}
use Rattle.rs_chain.specs.Walks.{key_at}
use Rattle.rs_chain.proofs.PruneLemmas.{IsCut}
use Rattle.rs_chain.proofs.writes.prune.Given as goal

abbrev pub invariant-loop-folder : goal.invariant-loop-folder
invariant-loop-folder l = record {
  linked : (order : ℕ → List ℕ) × AreLinked l.nodes order;
  cut : (path : Path) → path.folder ≡ false → is_nil path.names ≡ false → key_at l.fn.nodes l.root path ≡ Some l.key
      → (up : List (List ℕ)) × (is_below (folder_at up) path ≡ true) × IsCut l.fn.nodes l.nodes l.root path (folder_at up) l.folder;
}

abbrev pub decreases-loop-folder : goal.decreases-loop-folder
decreases-loop-folder l = slab_len l.nodes
