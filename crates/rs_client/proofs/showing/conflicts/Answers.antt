use Rattle.std.proofs.Common.{Some, sym, ap, ◌∙◌, List, ℕ}
use Rattle.rs_cache.specs.declared.conflict.Conflict.{Conflict}
use Rattle.rs_client.specs.Texts.{conflicts_text}
use Rattle.rs_client.specs.Answers.{shown_conflicts}
use Rattle.rs_client.specs.declared.client_fault.ClientFault.TheVariants.{NoMemory}
use Rattle.rs_client.proofs.AddingLemmas.{told_as, shown, unshown}
use Rattle.rs_client.proofs.showing.conflicts.Goals as goal

pub returns-in_err-text : goal.returns-in_err-text
returns-in_err-text g c = record {
  shows = unshown g.K.Keeper.rows g.K.Keeper.faults c.args.keeper.now c.open_connected.new.keeper shown_conflicts c.in_ok-client.client
      c.from_residual-in_err-text.result (told_as NoMemory _ c.from_residual-in_err-text.ensures.1) c.in_ok-client.ensures.shows;
}

pub returns : goal.returns
returns g c = record {
  shows = shown g.K.Keeper.rows g.K.Keeper.faults c.args.keeper.now c.open_connected.new.keeper shown_conflicts c.in_ok-client.client c.in_ok-text.text
      (ap (λ (t : List ℕ). Some t) (sym (c.in_ok-text.ensures.text ∙ ap (λ (cs : List Conflict). conflicts_text cs) c.conflicts.ensures.conflicts)))
      c.in_ok-client.ensures.shows;
}
