use Rattle.rs_client.specs.Answers.{shown_listing}
use Rattle.rs_client.specs.declared.client_fault.ClientFault.TheVariants.{NoMemory}
use Rattle.rs_client.proofs.AddingLemmas.{told_as, unshown}
use Rattle.rs_client.proofs.showing.listing.Goals as goal

pub returns-in_err-children : goal.returns-in_err-children
returns-in_err-children g c = record {
  shows = unshown g.K.Keeper.rows g.K.Keeper.faults c.args.keeper.now c.open_connected.new.keeper (shown_listing c.args.folder.now) c.in_ok-client.client
      c.from_residual-in_err-children.result (told_as NoMemory _ c.from_residual-in_err-children.ensures.1) c.in_ok-client.ensures.shows;
}

pub returns-in_err-text : goal.returns-in_err-text
returns-in_err-text g c = record {
  shows = unshown g.K.Keeper.rows g.K.Keeper.faults c.args.keeper.now c.open_connected.new.keeper (shown_listing c.args.folder.now) c.in_ok-client.client
      c.from_residual-in_err-text.result (told_as NoMemory _ c.from_residual-in_err-text.ensures.1) c.in_ok-client.ensures.shows;
}
