use Rattle.std.proofs.Common.{ap, ℕ, List, ◌++◌, ◌∙◌}
use Rattle.rs_grant.specs.Pages.{page_text}
use Rattle.rs_exchange.proofs.grant.page_of.Goals as goal

pub returns : goal.returns
returns c = record {
  page = c.of.ensures.bytes ∙ c.in_ok-consent_page.ensures.ok
      ∙ ap (λ (l : List ℕ). l ++ page_text c.as_slice.result.now c.args.ask.now) c.new-text.ensures.items
      ∙ ap (λ (name : List ℕ). page_text name c.args.ask.now) c.as_slice.ensures.bytes;
}
