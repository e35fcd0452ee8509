use Rattle.std.proofs.Common.{sym, ◌∙◌}
use Rattle.rs_path.specs.Paths.{folder_at}
use Rattle.rs_path.proofs.PathLemmas.{is_path-front, ancestors_more, ancestors_all}
use Rattle.rs_path.proofs.path.ancestors_at.Goals as goal

pub folder_at-requires : goal.folder_at-requires
folder_at-requires c = is_path-front (folder_at c.args.names.now) c.loop-depth.depth c.requires

pub loop-depth-preserved : goal.loop-depth-preserved
loop-depth-preserved c =
    rw (c.in_ok-push.ensures.items, c.loop-depth.invariant, c.in_ok-folder_at.ensures)
    (sym (ancestors_more c.args.names.now c.loop-depth.depth c.loop-depth-test.true))

pub returns : goal.returns
returns c = c.loop-depth.invariant ∙ ancestors_all c.args.names.now c.loop-depth.depth c.loop-depth-test.false
