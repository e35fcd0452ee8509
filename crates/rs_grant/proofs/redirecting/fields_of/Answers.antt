use Rattle.std.proofs.Common.{[], sym, ap, ◌∙◌}
use Rattle.form_urlencoded.specs.Form.{extend_pairs}
use Rattle.rs_grant.specs.Redirects.{outcome_fields, state_fields}
use Rattle.rs_grant.proofs.RedirectLemmas.{extend-append}
use Rattle.rs_grant.proofs.redirecting.fields_of.Goals as goal

pub returns : goal.returns
returns c =
    c.in_ok-append_state.ensures.ok
    ∙ ap (λ form. extend_pairs form (state_fields c.args.state.now)) (c.in_ok-append_outcome.ensures.ok ∙ ap (λ form. extend_pairs form (outcome_fields c.args.outcome.now)) c.new-fields.ensures.items)
    ∙ sym (extend-append [] (outcome_fields c.args.outcome.now) (state_fields c.args.state.now))
