use Rattle.std.proofs.Common.{refl}
use Rattle.rs_path.proofs.NameLemmas.{name_bytes}
use Rattle.rs_path.proofs.EscapeLemmas.{percent_encode-escaped}
use Rattle.rs_path.proofs.target.push_escaped.Goals as goal

pub returns : goal.returns
returns c =
    rw (
      c.in_ok-append_to.ensures.ok,
      c.percent_encode.ensures.text,
      c.as_slice.ensures.bytes,
      percent_encode-escaped c.args.name.now (name_bytes c.args.name.now c.as_slice.ensures.name),
    ) refl
