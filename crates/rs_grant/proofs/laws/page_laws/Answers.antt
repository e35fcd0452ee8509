use Rattle.std.proofs.Common.{refl}
use Rattle.rs_scope.specs.Scopes.{scopes_text}
use Rattle.rs_grant.proofs.PageLemmas.{fixed}
use Rattle.rs_grant.proofs.laws.page_laws.Goals as goal

pub returns : goal.returns
returns c = record {
  parts = λ user ask. refl;
  fixed = λ user ask. fixed user ask.origin (scopes_text ask.scopes) ask.client ask.redirect ask.state;
}
