use Rattle.std.proofs.Common.{◌≡◌, ap, ◌∙◌, rules}
use Rattle.serde_json.specs.View.{view}
use Rattle.serde_json.specs.Written.{has_float, compact_text}
use Rattle.rs_finger.specs.Jrds.{jrd_data}
use Rattle.rs_finger.proofs.JrdLemmas.{jrd_whole}
use Rattle.rs_finger.proofs.writing.jrd_text.Goals as goal

pub returns : goal.returns
returns c =
    let base = c.args.base.now in
    let user = c.args.user.now in
    let host = c.args.host.now in
    let seen : view c.from.result ≡ jrd_data c.args.linked base user host = search rules in
    c.in_ok-to_string.ensures.text (ap has_float seen ∙ jrd_whole c.args.linked base user host) ∙ ap compact_text seen
