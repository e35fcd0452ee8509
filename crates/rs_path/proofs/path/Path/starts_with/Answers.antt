use Rattle.std.proofs.Common.{◌≡◌, true, ap, ◌∙◌}
use Rattle.rs_path.specs.Paths.{Path}
use Rattle.rs_path.proofs.PrefixLemmas.{starts_with-plain_text}
use Rattle.rs_path.proofs.path.Path.starts_with.Goals as goal

pub returns-clause-below : goal.returns-clause-below
returns-clause-below c folder =
    let own : Path = record { names = c.self.inside.names.items; folder = c.self.inside.folder } in
    let theirs : Path = record { names = c.folder.inside.names.items; folder = c.folder.inside.folder } in
    let is_folder : theirs.folder ≡ true = ap (λ (p : Path). p.folder) c.folder.view_is ∙ folder in
    c.starts_with.ensures.value
    ∙ rw (c.deref.ensures.value, c.as_slice.ensures.value, c.self.invariant.text, c.folder.invariant.text, ← c.self.view_is, ← c.folder.view_is)
    (starts_with-plain_text own theirs c.self.invariant.path c.folder.invariant.path is_folder)
