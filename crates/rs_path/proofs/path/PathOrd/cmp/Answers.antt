use Rattle.std.proofs.Common.{◌∙◌}
use Rattle.rs_path.specs.Paths.{Path}
use Rattle.rs_path.proofs.OrderLemmas.{slice_cmp-plain_text}
use Rattle.rs_path.proofs.path.PathOrd.cmp.Goals as goal

pub returns : goal.returns
returns c =
    let own : Path = record { names = c.self.inside.names.items; folder = c.self.inside.folder } in
    let theirs : Path = record { names = c.other.inside.names.items; folder = c.other.inside.folder } in
    c.cmp.ensures
    ∙ rw (c.as_slice.ensures.value, c.as_slice-2.ensures.value, c.self.invariant.text, c.other.invariant.text, ← c.self.view_is, ← c.other.view_is)
    (slice_cmp-plain_text own theirs c.self.invariant.path c.other.invariant.path)
