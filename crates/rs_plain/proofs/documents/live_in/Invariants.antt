use Rattle.std.proofs.Common.{◌≡◌, ◌-◌, ◌^◌, min, take}
use Rattle.rs_rules.specs.Documents.{live_in}
use Rattle.rs_plain.proofs.documents.live_in.Given as goal

abbrev pub invariant-loop-placed : goal.invariant-loop-placed
invariant-loop-placed l = l.live ≡ min (live_in (take l.placed-index l.docs)) (2 ^ 64 - 1)
