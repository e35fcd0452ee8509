use Rattle.std.proofs.Common.{◌≡◌, Result, IfOk, subst, sym}
use Rattle.rs_grant.specs.declared.ask.Ask.{Ask}
use Rattle.rs_grant.specs.declared.grant_fault.GrantFault.{GrantFault}
use Rattle.rs_exchange.specs.Grants.{asked_page}
use Rattle.rs_exchange.proofs.GrantLemmas.{pages_refused}
use Rattle.rs_exchange.proofs.grant.read_page.Goals as goal

pub returns-in-Ok : goal.returns-in-Ok
returns-in-Ok c = record {
  asked = subst (λ (r : Result Ask GrantFault). IfOk c.show.result (λ asked. asked ≡ asked_page c.args.account.now.name r)) (sym c.in-Ok.ensures.read) c.show.ensures.shown;
}

pub returns-in-Err : goal.returns-in-Err
returns-in-Err c = record { asked = pages_refused c.args.account.now.name c.in-Err.fault _ c.in-Err.ensures.read c.refuse.result c.refuse.ensures.refused }
