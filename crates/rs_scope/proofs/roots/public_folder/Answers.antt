use Rattle.rs_scope.proofs.RootLemmas.{is_name-module, is_name-public}
use Rattle.rs_scope.proofs.roots.public_folder.Goals as goal

pub name_of-requires : goal.name_of-requires
name_of-requires c = is_name-public

pub name_of-requires-2 : goal.name_of-requires-2
name_of-requires-2 c = rw c.as_slice.ensures.bytes (is_name-module c.args.name.now c.as_slice.ensures.«module»)
