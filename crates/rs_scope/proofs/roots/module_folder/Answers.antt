use Rattle.rs_scope.proofs.RootLemmas.{is_name-module}
use Rattle.rs_scope.proofs.roots.module_folder.Goals as goal

pub name_of-requires : goal.name_of-requires
name_of-requires c = rw c.as_slice.ensures.bytes (is_name-module c.args.name.now c.as_slice.ensures.«module»)
