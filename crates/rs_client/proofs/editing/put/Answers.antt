use Rattle.rs_client.proofs.AddingLemmas.{told_as}
use Rattle.rs_client.proofs.PuttingLemmas.{unopened, unread, unput, put_in}
use Rattle.rs_client.proofs.editing.put.Goals as goal

pub returns-in_err-client : goal.returns-in_err-client
returns-in_err-client g c = record {
  puts = unopened g.K.Keeper.rows g.K.Keeper.faults c.args.keeper.now c.open_connected.new.keeper c.open_connected.new.keeper
      g.S.Source.left g.S.Source.faults c.args.source.now c.args.source.now c.args.path.now c.args.kind.now c.in_err-client.field-0.0 c.from_residual.result (told_as _ _ c.from_residual.ensures.1)
      c.in_err-client.ensures.shows c.in_err-client.ensures.why;
}

pub returns-in_err-body : goal.returns-in_err-body
returns-in_err-body g c = record {
  puts = unread g.K.Keeper.rows g.K.Keeper.faults c.args.keeper.now c.open_connected.new.keeper c.open_connected.new.keeper
      g.S.Source.left g.S.Source.faults c.args.source.now c.read_body.new.source c.args.path.now c.args.kind.now c.in_ok-client.client c.in_err-body.field-0.0
      c.from_residual-in_err-body.result (told_as _ _ c.from_residual-in_err-body.ensures.1) c.in_ok-client.ensures.shows c.in_err-body.ensures.body;
}

pub returns-in_err-edit : goal.returns-in_err-edit
returns-in_err-edit g c = record {
  puts = unput g.K.Keeper.rows g.K.Keeper.faults c.args.keeper.now c.open_connected.new.keeper c.edit.new.keeper
      g.S.Source.left g.S.Source.faults c.args.source.now c.read_body.new.source c.args.path.now c.args.kind.now c.in_ok-client.client c.edit.new.self c.in_ok-body.body c.in_err-edit.field-0.0
      c.from_residual-in_err-edit.result (told_as _ _ c.from_residual-in_err-edit.ensures.1) c.in_ok-client.ensures.shows c.in_ok-body.ensures.body
      c.in_err-edit.ensures.noted c.edit.ensures.later;
}

pub returns : goal.returns
returns g c = record {
  puts = put_in g.K.Keeper.rows g.K.Keeper.faults c.args.keeper.now c.open_connected.new.keeper c.edit.new.keeper
      g.S.Source.left g.S.Source.faults c.args.source.now c.read_body.new.source c.args.path.now c.args.kind.now c.in_ok-client.client c.edit.new.self c.in_ok-body.body
      c.in_ok-client.ensures.shows c.in_ok-body.ensures.body c.in_ok-edit.ensures.noted c.edit.ensures.later;
}
