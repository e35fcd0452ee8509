use Rattle.std.proofs.Common.{◌-◌, ◌<◌, length, sym, arith}
use Rattle.rs_path.specs.Paths.{folder_at}
use Rattle.rs_path.proofs.PathLemmas.{is_path-front, parent_at-some}
use Rattle.rs_path.proofs.path.parent_at.Goals as goal

pub folder_at-requires : goal.folder_at-requires
folder_at-requires c = is_path-front (folder_at c.args.names.now) (length c.args.names.now - 1) c.requires

pub returns-in_ok-folder_at-in-len1-up : goal.returns-in_ok-folder_at-in-len1-up
returns-in_ok-folder_at-in-len1-up c =
    let some : 0 < length c.args.names.now = omega arith in
    rw c.in_ok-folder_at-in-len1-up.ensures (sym (parent_at-some c.args.names.now some))
