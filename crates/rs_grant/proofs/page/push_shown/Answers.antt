use Rattle.rs_grant.specs.Pages.{page_head, before_scopes, before_user, part_text}
use Rattle.rs_grant.proofs.PageLemmas.{pushed_three}
use Rattle.rs_grant.proofs.page.push_shown.Goals as goal

pub returns : goal.returns
returns c = record {
  ok = pushed_three part_text c.args.page.now.items c.push_part.new.page.items c.push_part-2.new.page.items c.push_part-3.new.page.items (page_head, c.args.origin.now)
      (before_scopes, c.args.scopes.now) (before_user, c.args.user.now) c.in_ok-push_part.ensures.ok c.in_ok-push_part-2.ensures.ok c.in_ok-push_part-3.ensures.ok;
}
