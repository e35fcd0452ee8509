use Rattle.std.proofs.Common.{◌≡◌, take}
use Rattle.rs_path.specs.Paths.{folder_at}
use Rattle.rs_plain.specs.PlainTrees.{last_write}
use Rattle.rs_plain.proofs.writes.last_write.Given as goal

abbrev pub invariant-loop-write : goal.invariant-loop-write
invariant-loop-write l = l.last ≡ last_write (folder_at l.names) (take l.write-index l.writes)
