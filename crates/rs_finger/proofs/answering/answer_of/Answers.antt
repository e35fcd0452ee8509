use Rattle.std.proofs.Common.{◌≡◌, map, codes, string_bytes, ap, ◌∙◌, subst}
use Rattle.rs_form.specs.Fields.{form_values}
use Rattle.rs_finger.specs.Answers.{is_wanted, resources_answer, GivesText}
use Rattle.rs_finger.proofs.answering.answer_of.Goals as goal

pub returns : goal.returns
returns c =
    let base = c.args.base.now in
    let host = c.args.host.now in
    let users = c.args.users.now in
    let query = c.args.query.now in
    let wanted : c.is_wanted-linked.result ≡ is_wanted (form_values (codes "rel") query) =
    c.is_wanted-linked.ensures ∙ ap is_wanted (ap (map string_bytes) c.as_slice.ensures.value ∙ c.in_ok-rels.ensures.values) in
    let values = ap (map string_bytes) c.as_slice-2.ensures.value ∙ c.in_ok-resources.ensures.values in
    subst (λ values. GivesText c.resources_answer.result (resources_answer base host users (is_wanted (form_values (codes "rel") query)) values)) values
    (subst (λ linked. GivesText c.resources_answer.result (resources_answer base host users linked (map string_bytes c.as_slice-2.result.now))) wanted
    c.resources_answer.ensures)
