use Rattle.std.proofs.Common.{◌≡◌, take, drop}
use Rattle.rs_rules.specs.Clashes.{first_document, first_front, has_document}
use Rattle.rs_plain.proofs.documents.clash_in.Given as goal

abbrev pub invariant-loop-depth : goal.invariant-loop-depth
invariant-loop-depth l = first_document l.docs l.names ≡ first_front (has_document l.docs) (take l.depth l.names) (drop l.depth l.names)
