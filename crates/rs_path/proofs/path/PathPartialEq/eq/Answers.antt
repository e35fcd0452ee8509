use Rattle.std.proofs.Common.{◌∙◌}
use Rattle.rs_path.specs.Paths.{Path}
use Rattle.rs_path.proofs.OrderLemmas.{bytes_eq-plain_text}
use Rattle.rs_path.proofs.path.PathPartialEq.eq.Goals as goal

pub returns : goal.returns
returns c =
    let own : Path = record { names = c.self.inside.names.items; folder = c.self.inside.folder } in
    let theirs : Path = record { names = c.other.inside.names.items; folder = c.other.inside.folder } in
    c.eq.ensures
    ∙ rw (c.as_slice.ensures.value, c.as_slice-2.ensures.value, c.self.invariant.text, c.other.invariant.text, ← c.self.view_is, ← c.other.view_is)
    (bytes_eq-plain_text own theirs c.self.invariant.path c.other.invariant.path)
