use Rattle.std.proofs.Common.{◌≡◌, take}
use Rattle.std.specs.List.{flat_map}
use Rattle.rs_client.specs.Texts.{conflict_line}
use Rattle.rs_client.proofs.texts.conflicts_text.Given as goal

abbrev pub invariant-loop-conflict : goal.invariant-loop-conflict
invariant-loop-conflict l = l.text.items ≡ flat_map conflict_line (take l.conflict-index l.conflicts)
