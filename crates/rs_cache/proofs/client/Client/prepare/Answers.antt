use Rattle.rs_cache.proofs.ReadyLemmas.{kept-made}
use Rattle.rs_cache.proofs.client.Client.prepare.Goals as goal

pub returns-in_ok-make_spot-in-Settled-clause-ready :
    goal.returns-in_ok-make_spot-in-Settled-clause-ready
returns-in_ok-make_spot-in-Settled-clause-ready c =
    kept-made c.args.self.now _ _ c.in-Settled.path c.in-Settled.tag c.in_ok-make_spot-in-Settled.field-0 c.args.event c.self.view_is c.in-Settled.is
    c.in_ok-make_spot-in-Settled.ensures.made c.in_ok-make_spot-in-Settled.ensures.spot
