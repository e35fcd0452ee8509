use Rattle.std.proofs.Common.{ap, ◌∙◌, ◌++◌}
use Rattle.rs_grant.specs.Pages.{before_action, before_client, before_redirect, before_scope, part_text}
use Rattle.rs_grant.proofs.PageLemmas.{pushed_four}
use Rattle.rs_grant.proofs.page.push_hidden.Goals as goal

pub returns : goal.returns
returns c =
    let client = c.in_ok-push_part-2.ensures.ok
    ∙ ap (λ text. c.push_part.new.page.items ++ part_text (before_client, text)) c.as_slice.ensures.bytes in
    let redirect = c.in_ok-push_part-3.ensures.ok
    ∙ ap (λ text. c.push_part-2.new.page.items ++ part_text (before_redirect, text)) c.as_slice-2.ensures.bytes in
    record {
      ok = pushed_four part_text c.args.page.now.items c.push_part.new.page.items c.push_part-2.new.page.items c.push_part-3.new.page.items
          c.push_part-4.new.page.items (before_action, c.args.user.now) (before_client, c.args.ask.now.client) (before_redirect, c.args.ask.now.redirect)
          (before_scope, c.args.scopes.now) c.in_ok-push_part.ensures.ok client redirect c.in_ok-push_part-4.ensures.ok;
    }
