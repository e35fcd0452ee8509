use Rattle.rs_cache.specs.declared.event.Event.TheVariants.{Resolved}
use Rattle.rs_cache.specs.Refusals.{resolve_refusal}
use Rattle.rs_client.proofs.AddingLemmas.{told_as, added, refused}
use Rattle.rs_client.proofs.editing.resolve.Goals as goal

pub returns-in_err-resolve : goal.returns-in_err-resolve
returns-in_err-resolve g c = record {
  resolves = refused g.K.Keeper.rows g.K.Keeper.faults c.args.keeper.now c.open_connected.new.keeper c.resolve.new.keeper
      (λ s. resolve_refusal s c.args.n c.args.how) (Resolved c.args.n c.args.how) c.in_ok-client.client c.resolve.new.self c.in_err-resolve.field-0.0
      c.from_residual-in_err-resolve.result (told_as _ _ c.from_residual-in_err-resolve.ensures.1) c.in_ok-client.ensures.shows c.in_err-resolve.ensures.noted c.resolve.ensures.later;
}

pub returns : goal.returns
returns g c = record {
  resolves = added g.K.Keeper.rows g.K.Keeper.faults c.args.keeper.now c.open_connected.new.keeper c.resolve.new.keeper
      (λ s. resolve_refusal s c.args.n c.args.how) (Resolved c.args.n c.args.how) c.in_ok-client.client c.resolve.new.self
      c.in_ok-client.ensures.shows c.in_ok-resolve.ensures.noted c.resolve.ensures.later;
}
