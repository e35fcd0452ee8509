use Rattle.std.proofs.Common.{◌∙◌}
use Rattle.rs_path.proofs.KeyLemmas.{slice_cmp-key_of}
use Rattle.rs_path.proofs.child.Child.cmp_name.Goals as goal

pub returns : goal.returns
returns c = record {
  order = c.compare_keys.ensures
      ∙ rw (c.as_slice.ensures.bytes, c.as_slice-2.ensures.bytes)
      (slice_cmp-key_of c.args.self.now (record { name = c.args.name.now; folder = c.args.folder }) c.as_slice.ensures.name c.as_slice-2.ensures.name);
}
