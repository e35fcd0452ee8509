use Rattle.std.proofs.Common.{sym, ap, ◌∙◌, option_map}
use Rattle.rs_path.specs.Paths.{Path}
use Rattle.rs_talk.specs.declared.change.Change.{Change}
use Rattle.rs_cache.specs.Effects.{Edited}
use Rattle.rs_cache.proofs.ReadyLemmas.{resolved-made}
use Rattle.rs_cache.proofs.client.Client.prepare_resolved.Goals as goal

abbrev edited : Path × Change → Edited
edited k = record { path = k.0; change = k.1 }

pub returns-in_ok-spot-in-Some-clause-ready : goal.returns-in_ok-spot-in-Some-clause-ready
returns-in_ok-spot-in-Some-clause-ready c =
    resolved-made c.args.self.now _ _ c.args.n c.args.how (record { path = c.in-Some.path; change = c.in-Some.change }) c.in_ok-spot-in-Some.spot c.self.view_is
    (sym c.in_ok-kept_change.ensures.kept ∙ ap (option_map edited) c.in-Some.is) c.in_ok-spot-in-Some.ensures.made c.in_ok-spot-in-Some.ensures.spot
