use Rattle.std.proofs.Common.{◌≡◌, true, Some, Ok, IsUtf8, sym, ap, ◌∙◌, subst}
use Rattle.std.proofs.lemmas.Str.{is_utf8-from_IsUtf8}
use Rattle.rs_finger.specs.Accounts.{is_uri}
use Rattle.rs_finger.specs.Jrds.{jrd_text}
use Rattle.rs_finger.proofs.AccountLemmas.{named_is_user}
use Rattle.rs_finger.proofs.AnswerLemmas.{named_as, no_text, of_user, not_text}
use Rattle.rs_finger.proofs.answering.resource_answer.Goals as goal

pub returns-in_default : goal.returns-in_default
returns-in_default c =
    let uri : is_uri c.args.resource.now ≡ true = sym (ap is_uri c.as_bytes.ensures.value) ∙ sym c.is_uri.ensures ∙ c.if-not-is_uri.false in
    let none = not_text c.args.host.now (λ text. c.in_default.ensures.cases.0 (subst IsUtf8 (sym c.as_slice.ensures.bytes) text)) in
    no_text c.args.base.now c.args.host.now c.args.resource.now c.args.users.now c.args.linked uri none

pub jrd_of-requires-clause-user : goal.jrd_of-requires-clause-user
jrd_of-requires-clause-user c =
    let host = c.as_bytes-2.ensures.value ∙ c.in-Ok.ensures.cases.0 ∙ c.as_slice.ensures.bytes in
    let named = named_as c.args.host.now c.args.resource.now c.as_bytes-2.result.now c.as_bytes-3.result.now c.in-Some.user.now c.args.users.now c.as_slice-2.result.now
    c.in-Some.ensures host c.as_bytes-3.ensures.value c.as_slice-2.ensures.names in
    named_is_user c.args.host.now c.args.resource.now c.args.users.now c.in-Some.user.now c.requires.users named

pub returns : goal.returns
returns c =
    let uri : is_uri c.args.resource.now ≡ true = sym (ap is_uri c.as_bytes.ensures.value) ∙ sym c.is_uri.ensures ∙ c.if-not-is_uri.false in
    let host = c.as_bytes-2.ensures.value ∙ c.in-Ok.ensures.cases.0 ∙ c.as_slice.ensures.bytes in
    let named = named_as c.args.host.now c.args.resource.now c.as_bytes-2.result.now c.as_bytes-3.result.now c.in-Some.user.now c.args.users.now c.as_slice-2.result.now
    c.in-Some.ensures host c.as_bytes-3.ensures.value c.as_slice-2.ensures.names in
    let text = is_utf8-from_IsUtf8 c.args.host.now (subst IsUtf8 c.as_slice.ensures.bytes c.in-Ok.ensures.cases.1) in
    let written = c.in_ok-jrd_of.ensures ∙ ap (jrd_text c.args.linked c.args.base.now c.in-Some.user.now) (c.in-Ok.ensures.cases.0 ∙ c.as_slice.ensures.bytes) in
    of_user c.args.base.now c.args.host.now c.args.resource.now c.args.users.now c.args.linked (Some c.in-Some.user.now) uri text named
    ∙ ap (λ xs. Ok xs) (sym written)
