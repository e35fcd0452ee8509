use Rattle.std.proofs.Common.{◌-◌, ◌<◌, ◌≤◌, length, drop}
use Rattle.rs_chain.specs.Rooms.{AreFresh}
use Rattle.rs_chain.proofs.room.fresh_nodes.Given as goal

abbrev pub invariant-loop-place : goal.invariant-loop-place
invariant-loop-place l = record {
  above : l.depth ≤ l.place;
  within : l.place < length l.names;
  fresh : AreFresh (drop l.place l.names) l.fn.doc l.fresh.items;
}

abbrev pub decreases-loop-place : goal.decreases-loop-place
decreases-loop-place l = l.place - l.depth
