use Rattle.std.proofs.Common.{◌≡◌, ◌++◌}
use Rattle.std.specs.List.{flat_map}
use Rattle.rs_client.specs.Texts.{child_line}
use Rattle.rs_client.proofs.texts.listing_text.Given as goal

abbrev pub invariant-loop-child : goal.invariant-loop-child
invariant-loop-child l = l.text.items ++ flat_map child_line l.child-iterator ≡ flat_map child_line l.children.keys
