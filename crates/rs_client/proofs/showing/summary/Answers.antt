use Rattle.rs_client.specs.Answers.{shown_summary}
use Rattle.rs_client.specs.declared.client_fault.ClientFault.TheVariants.{NoMemory}
use Rattle.rs_client.proofs.AddingLemmas.{told_as, shown, unshown}
use Rattle.rs_client.proofs.TextLemmas.{summary-is}
use Rattle.std.proofs.Common.{ap, ◌∙◌}
use Rattle.rs_client.specs.Texts.{summary_text}
use Rattle.rs_client.proofs.showing.summary.Goals as goal

pub returns-in_err-text : goal.returns-in_err-text
returns-in_err-text g c = record {
  shows = unshown g.K.Keeper.rows g.K.Keeper.faults c.args.keeper.now c.open_connected.new.keeper shown_summary c.in_ok-client.client
      c.from_residual-in_err-text.result (told_as NoMemory _ c.from_residual-in_err-text.ensures.1) c.in_ok-client.ensures.shows;
}

pub returns : goal.returns
returns g c = record {
  shows = shown g.K.Keeper.rows g.K.Keeper.faults c.args.keeper.now c.open_connected.new.keeper shown_summary c.in_ok-client.client c.in_ok-text.text
      (summary-is c.in_ok-client.client.connection c.root.result.now _ c.in_ok-text.text c.root.ensures.root
      (c.in_ok-text.ensures.text ∙ ap (summary_text c.root.result.now) c.summary.ensures.summary))
      c.in_ok-client.ensures.shows;
}
