use Rattle.std.proofs.Common.{sym}
use Rattle.rs_path.proofs.NameLemmas.{is_name-from_fault}
use Rattle.rs_path.proofs.reading.read_plain_name.Goals as goal

pub of-requires : goal.of-requires
of-requires c = rw c.in_ok-from_slice-in-None.ensures.items (is_name-from_fault _ (sym c.in-None.ensures.fault) c.requires)
