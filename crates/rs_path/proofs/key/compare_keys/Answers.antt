use Rattle.std.proofs.Common.{◌∙◌, sym}
use Rattle.rs_path.proofs.NameLemmas.{name_without_slash}
use Rattle.rs_path.proofs.KeyLemmas.{slice_cmp-key_text}
use Rattle.rs_path.proofs.key.compare_keys.Goals as goal

pub returns : goal.returns
returns c =
    c.compare_bytes.ensures
    ∙ sym (slice_cmp-key_text c.args.own.now c.args.own_folder c.args.theirs.now c.args.their_folder (name_without_slash c.args.own.now c.requires.own) (name_without_slash c.args.theirs.now c.requires.theirs))
