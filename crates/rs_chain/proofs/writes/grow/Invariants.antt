use Rattle.std.proofs.Common.{◌≡◌, ℕ, List, length, false}
use Rattle.rs_path.specs.Paths.{Path}
use Rattle.rs_rules.specs.declared.doc.Doc.{Doc}
use Rattle.rs_chain.specs.Climbs.{AreLinked}
use Rattle.rs_chain.specs.Walks.{AreListed}
use Rattle.rs_chain.specs.Rooms.{IsUnder}
use Rattle.rs_chain.proofs.GrowLemmas.{IsGrowingOrDone}
use Rattle.rs_chain.proofs.writes.grow.Given as goal

abbrev pub invariant-loop-node : goal.invariant-loop-node
invariant-loop-node l = record {
  growing : (root : ℕ) (path : Path) (doc : Doc) → AreListed l.fn.nodes root → path.folder ≡ false → IsUnder l.fn.nodes root path doc l.fn.folder l.fn.fresh.items
      → IsGrowingOrDone l.fn.nodes l.nodes root path doc l.key l.fresh.items;
  linked : (order : ℕ → List ℕ) × AreLinked l.nodes order;
}

abbrev pub decreases-loop-node : goal.decreases-loop-node
decreases-loop-node l = length l.fresh.items
