use Rattle.std.proofs.Common.{◌≡◌, map, take}
use Rattle.httparse.specs.Spans.{header_bytes}
use Rattle.rs_request.specs.RequestHeads.{pair_fields}
use Rattle.rs_request.proofs.head.fields_at.Given as goal

abbrev pub invariant-loop-span : goal.invariant-loop-span
invariant-loop-span l = l.fields ≡ pair_fields (map (header_bytes l.text) (take l.span-index l.spans))
