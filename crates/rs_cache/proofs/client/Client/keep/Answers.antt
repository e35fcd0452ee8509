use Rattle.rs_cache.proofs.LawfulLemmas.{spellable-from}
use Rattle.rs_cache.proofs.client.Client.keep.Goals as goal

pub event_row-requires : goal.event_row-requires
event_row-requires g c = record { spellable = spellable-from c.args.self.now c.args.event c.requires.lawful }
