use Rattle.std.proofs.Common.{List, ℕ, [], ◌++◌, ap, ◌∙◌}
use Rattle.std.specs.List.{flat_map}
use Rattle.rs_scope.specs.Scopes.{scopes_text}
use Rattle.rs_grant.specs.Pages.{shown_parts, hidden_parts, state_parts, part_text, page_end}
use Rattle.rs_grant.proofs.PageLemmas.{page_is}
use Rattle.rs_grant.proofs.page.page_of.Goals as goal

pub returns : goal.returns
returns c =
    let user = c.args.user.now in
    let ask = c.args.ask.now in
    let texts = scopes_text ask.scopes in
    let written = c.in_ok-write.ensures.ok ∙ ap (λ (xs : List ℕ). xs ++ texts) c.new-scopes.ensures.items in
    let scopes = c.as_slice-2.ensures.value ∙ written in
    let again = c.as_slice-3.ensures.value ∙ written in
    let shown = c.in_ok-push_shown.ensures.ok
    ∙ ap (λ (xs : List ℕ). xs ++ flat_map part_text (shown_parts user c.as_slice.result.now c.as_slice-2.result.now)) c.new-page.ensures.items
    ∙ ap (λ (xs : List ℕ). [] ++ flat_map part_text (shown_parts user xs c.as_slice-2.result.now)) c.as_slice.ensures.bytes
    ∙ ap (λ (xs : List ℕ). [] ++ flat_map part_text (shown_parts user ask.origin xs)) scopes in
    let hidden = c.in_ok-push_hidden.ensures.ok
    ∙ ap (λ (xs : List ℕ). c.push_shown.new.page.items ++ flat_map part_text (hidden_parts user ask.client ask.redirect xs)) again in
    let last = c.in_ok-extend_from_slice.ensures.items ∙ ap (λ (xs : List ℕ). c.push_state.new.page.items ++ xs) c.as_bytes.ensures.value in
    page_is part_text c.push_shown.new.page.items c.push_hidden.new.page.items c.push_state.new.page.items c.extend_from_slice.new.self.items page_end
    (shown_parts user ask.origin texts) (hidden_parts user ask.client ask.redirect texts) (state_parts ask.state) shown hidden c.in_ok-push_state.ensures.ok last
