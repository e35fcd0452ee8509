use Rattle.rs_client.specs.Answers.{shown_document}
use Rattle.rs_client.specs.declared.client_fault.ClientFault.TheVariants.{NoMemory}
use Rattle.rs_client.proofs.AddingLemmas.{told_as, unshown}
use Rattle.rs_client.proofs.showing.document.Goals as goal

pub returns-in_err-body-in-Some : goal.returns-in_err-body-in-Some
returns-in_err-body-in-Some g c = record {
  shows = unshown g.K.Keeper.rows g.K.Keeper.faults c.args.keeper.now c.open_connected.new.keeper (shown_document c.args.path.now) c.in_ok-client.client
      c.from_residual-in_err-body-in-Some.result (told_as NoMemory _ c.from_residual-in_err-body-in-Some.ensures.1) c.in_ok-client.ensures.shows;
}
