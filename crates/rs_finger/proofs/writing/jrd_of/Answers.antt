use Rattle.std.proofs.Common.{◌≡◌, string_bytes, IfOk, ◌∙◌, subst}
use Rattle.rs_finger.specs.Jrds.{jrd_text}
use Rattle.rs_finger.proofs.writing.jrd_of.Goals as goal

pub returns : goal.returns
returns c =
    let base = c.text_of-base.ensures ∙ c.as_slice.ensures.bytes in
    let user = c.text_of_user-user.ensures ∙ c.as_slice-2.ensures.bytes in
    subst (λ b. IfOk c.jrd_text.result (λ text. string_bytes text ≡ jrd_text c.args.linked b c.args.user.now c.args.host.now)) base
    (subst (λ u. IfOk c.jrd_text.result (λ text. string_bytes text ≡ jrd_text c.args.linked c.text_of-base.result.now u c.args.host.now)) user c.jrd_text.ensures)
