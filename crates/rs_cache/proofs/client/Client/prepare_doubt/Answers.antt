use Rattle.std.proofs.Common.{sym, ◌∙◌}
use Rattle.rs_cache.proofs.ReadyLemmas.{doubt-made}
use Rattle.rs_cache.proofs.client.Client.prepare_doubt.Goals as goal

pub returns-in_ok-make_spot-in-Some-clause-ready :
    goal.returns-in_ok-make_spot-in-Some-clause-ready
returns-in_ok-make_spot-in-Some-clause-ready c =
    doubt-made c.args.self.now _ _ c.args.path c.in-Some.doubts c.in_ok-make_spot-in-Some.field-0 c.self.view_is
    (sym c.in_ok-new_doubts.ensures.doubts ∙ c.in-Some.is) c.in_ok-make_spot-in-Some.ensures.made c.in_ok-make_spot-in-Some.ensures.spot
