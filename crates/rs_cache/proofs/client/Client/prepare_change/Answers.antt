use Rattle.rs_cache.proofs.ReadyLemmas.{waiting-made}
use Rattle.rs_cache.proofs.client.Client.prepare_change.Goals as goal

pub returns-clause-ready : goal.returns-clause-ready
returns-clause-ready c =
    waiting-made c.args.self.now _ _ c.args.path _ c.in_ok-make_spot.field-0 c.self.view_is c.in_ok-make_spot.ensures.made c.in_ok-make_spot.ensures.spot
