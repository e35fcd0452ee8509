-- Which paths have a place.
use Rattle.std.proofs.Common.{◌≡◌, Bool, true, not, ◌||◌, ◌&&◌, length, nat_le}
use Rattle.std.specs.List.{list_all}
use Rattle.std.proofs.lemmas.Bool.{and_parts}
use Rattle.rs_path.specs.Limits.{max_names}
use Rattle.rs_path.specs.Names.{is_name}
use Rattle.rs_path.specs.Paths.{Path, is_path, is_nil}
use Rattle.rs_chain.specs.Shown.{is_placed}

pub path_placed : (p : Path) → is_path p ≡ true → is_placed p ≡ true
path_placed p is =
    let parts = and_parts (list_all is_name p.names && nat_le (length p.names) max_names) (p.folder || not (is_nil p.names)) is in parts.1
