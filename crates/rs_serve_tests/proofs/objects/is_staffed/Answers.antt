use Rattle.std.proofs.Common.{arith}
use Rattle.std.proofs.lemmas.Bool.Decides.{nat_tests}
use Rattle.rs_serve_tests.proofs.StaffLemmas.{fits_always}
use Rattle.rs_serve_tests.proofs.objects.is_staffed.Goals as goal

pub returns-in-Ok : goal.returns-in-Ok
returns-in-Ok c = record {
  fits = λ is. fits_always c.args.text.now c.in-Ok.config c.len.result c.args.keepers c.args.posts c.in-Ok.ensures.read
      (omega (arith, c.len.ensures, c.in-Ok.config.rooms.ok.0)) c.config_laws.ensures.rooms c.config_laws.ensures.one is
      (grind (arith, nat_tests, c.if-posts-eq0.false)) (grind (arith, nat_tests, c.if-posts-gt64.false));
}
