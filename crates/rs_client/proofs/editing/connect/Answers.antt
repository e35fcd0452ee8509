use Rattle.rs_client.proofs.AddingLemmas.{told_as}
use Rattle.rs_client.proofs.ConnectingLemmas.{begun, unbegun}
use Rattle.rs_client.proofs.editing.connect.Goals as goal

pub returns-in_err-connect : goal.returns-in_err-connect
returns-in_err-connect g c = record {
  connects = unbegun g.K.Keeper.rows g.K.Keeper.faults c.args.keeper.now c.open.new.keeper c.connect.new.keeper c.args.root.now c.args.token.now c.args.scopes.now
      c.in_ok-client.client c.connect.new.self c.in_err-connect.field-0.0 c.from_residual-in_err-connect.result (told_as _ _ c.from_residual-in_err-connect.ensures.1)
      c.in_ok-client.ensures.opened c.in_ok-client.ensures.rows c.in_ok-client.ensures.cause.later c.in_ok-client.ensures.connected
      c.in_err-connect.ensures.noted c.connect.ensures.later;
}

pub returns : goal.returns
returns g c = record {
  connects = begun g.K.Keeper.rows g.K.Keeper.faults c.args.keeper.now c.open.new.keeper c.connect.new.keeper c.args.root.now c.args.token.now c.args.scopes.now
      c.in_ok-client.client c.connect.new.self
      c.in_ok-client.ensures.opened c.in_ok-client.ensures.rows c.in_ok-client.ensures.cause.later c.in_ok-connect.ensures.noted c.connect.ensures.later;
}
