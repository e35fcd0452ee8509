use Rattle.rs_talk.specs.declared.change.Change.TheVariants.{Remove}
use Rattle.rs_cache.specs.declared.event.Event.TheVariants.{Edit}
use Rattle.rs_cache.specs.Refusals.{remove_refusal}
use Rattle.rs_client.proofs.AddingLemmas.{told_as, added, refused}
use Rattle.rs_client.proofs.editing.remove.Goals as goal

pub returns-in_err-remove : goal.returns-in_err-remove
returns-in_err-remove g c = record {
  removes = refused g.K.Keeper.rows g.K.Keeper.faults c.args.keeper.now c.open_connected.new.keeper c.remove.new.keeper
      (λ s. remove_refusal s c.args.path.now) (Edit c.args.path.now Remove) c.in_ok-client.client c.remove.new.self c.in_err-remove.field-0.0
      c.from_residual-in_err-remove.result (told_as _ _ c.from_residual-in_err-remove.ensures.1) c.in_ok-client.ensures.shows c.in_err-remove.ensures.noted c.remove.ensures.later;
}

pub returns : goal.returns
returns g c = record {
  removes = added g.K.Keeper.rows g.K.Keeper.faults c.args.keeper.now c.open_connected.new.keeper c.remove.new.keeper
      (λ s. remove_refusal s c.args.path.now) (Edit c.args.path.now Remove) c.in_ok-client.client c.remove.new.self
      c.in_ok-client.ensures.shows c.in_ok-remove.ensures.noted c.remove.ensures.later;
}
