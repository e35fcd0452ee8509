use Rattle.std.proofs.Common.{◌∙◌}
use Rattle.rs_path.proofs.KeyLemmas.{slice_cmp-key_of}
use Rattle.rs_path.proofs.child.ChildOrd.cmp.Goals as goal

pub returns : goal.returns
returns c =
    c.compare_keys.ensures
    ∙ rw (c.as_slice.ensures.bytes, c.as_slice-2.ensures.bytes)
    (slice_cmp-key_of c.args.self.now c.args.other.now c.as_slice.ensures.name c.as_slice-2.ensures.name)
