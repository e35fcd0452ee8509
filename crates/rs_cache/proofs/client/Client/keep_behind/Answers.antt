use Rattle.std.proofs.Common.{◌≡◌, ◌<◌, true, is_some, subst}
use Rattle.rs_cache.proofs.LawfulLemmas.{turn-behind}
use Rattle.rs_cache.proofs.client.Client.keep_behind.Goals as goal

pub keep-requires-clause-turn : goal.keep-requires-clause-turn
keep-requires-clause-turn g c =
    turn-behind c.args.event c.args.self.now.rows c.requires.other
    (subst (λ s. is_some s.connection ≡ true → 0 < s.rows) c.self.view_is c.self.invariant.1 c.requires.connected)
