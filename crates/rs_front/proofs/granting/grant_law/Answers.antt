use Rattle.rs_exchange.specs.Requests.{asked_of}
use Rattle.rs_front.proofs.GrantingLemmas.{grant_by}
use Rattle.rs_front.proofs.granting.grant_law.Goals as goal

pub returns : goal.returns
returns c = record {
  granted = λ users config m. grant_by c.taken_laws.ensures.only users (asked_of config m) (c.asked_laws.ensures.store config m);
}
