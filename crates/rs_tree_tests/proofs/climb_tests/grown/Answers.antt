-- The tree stands for the contents of the one record.
use Rattle.std.proofs.Common.{None}
use Rattle.rs_record.specs.declared.records.Record.TheVariants.{Put}
use Rattle.rs_rules.specs.Contents.{no_contents, contents_after}
use Rattle.rs_tree_tests.proofs.climb_tests.grown.Goals as goal

pub returns : goal.returns
returns g c =
    let path = c.in_ok-path.path in
    let kind = c.in_ok-kind.kind in
    let body = c.of-body.result in
    let before = c.in_ok-ready.ensures.same no_contents c.in_ok-tree.ensures.empty in
    record { stands = (contents_after 1 (Put path kind body None) no_contents, c.put.ensures.put no_contents path kind body None before c.in_ok-ready.ensures.ready) }
