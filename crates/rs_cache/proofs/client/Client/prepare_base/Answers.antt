use Rattle.std.proofs.Common.{refl}
use Rattle.rs_cache.proofs.ReadyLemmas.{base-made_none, base-made_some}
use Rattle.rs_cache.proofs.client.Client.prepare_base.Goals as goal

pub returns-in-None-clause-ready : goal.returns-in-None-clause-ready
returns-in-None-clause-ready c =
    base-made_none c.args.self.now c.args.path c.args.base c.args.ends _ c.in-None.is refl refl c.in_ok-folders.ensures.ancestors refl

pub returns-in_ok-spot-in-Some-clause-ready : goal.returns-in_ok-spot-in-Some-clause-ready
returns-in_ok-spot-in-Some-clause-ready c =
    base-made_some c.args.self.now _ _ c.args.path c.in_ok-copy-in-Some.field-0 c.args.base c.in-Some.base c.args.ends c.in_ok-spot-in-Some.spot _
    c.self.view_is c.in-Some.is c.in_ok-copy-in-Some.ensures.same c.in_ok-spot-in-Some.ensures.made c.in_ok-spot-in-Some.ensures.spot
    refl refl c.in_ok-folders.ensures.ancestors refl
