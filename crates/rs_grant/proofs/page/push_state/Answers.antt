use Rattle.std.proofs.Common.{◌++◌, ap, ◌∙◌}
use Rattle.rs_grant.specs.Pages.{before_state, part_text}
use Rattle.rs_grant.proofs.PageLemmas.{pushed_one}
use Rattle.rs_grant.proofs.page.push_state.Goals as goal

pub returns : goal.returns
returns c =
    let state = c.in_ok-push_part.ensures.ok ∙ ap (λ text. c.args.page.now.items ++ part_text (before_state, text)) c.as_slice.ensures.bytes in
    record { ok = rw c.in-Some.is (pushed_one part_text c.args.page.now.items c.push_part.new.page.items (before_state, c.in-Some.state) state) }
