use Rattle.std.proofs.Common.{refl, arith}
use Rattle.rs_serve_tests.proofs.StaffLemmas.{staffed_as}
use Rattle.rs_serve_tests.proofs.objects.run.Goals as goal

pub run_serve-requires-clause-staffed : goal.run_serve-requires-clause-staffed
run_serve-requires-clause-staffed g c κs within = staffed_as c.args.posts.now.items c.args.keepers.now.items _
    c.as_bytes.result.now c.args.text.now c.as_bytes-2.result.now c.len.result c.len-2.result
    c.as_bytes.ensures.value c.as_bytes-2.ensures.value
    (omega (arith, c.len.ensures, c.args.posts.now.ok.0)) (omega (arith, c.len-2.ensures, c.args.keepers.now.ok.0))
    (c.if-not-is_staffed.ensures.fits refl)
