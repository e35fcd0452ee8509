use Rattle.std.proofs.Common.{◌≡◌, Some, None, IfSome, sym, ◌∙◌, subst}
use Rattle.rs_rules.specs.Answers.{first_of, write_steps, condition_steps, is_present, path_version, record_of_call}
use Rattle.rs_user.proofs.StepLemmas.{first_stays, first_goes_on, none_unless, place_answers}
use Rattle.rs_user.proofs.state.UserState.decide.Goals as goal

pub returns-in-Some-2 : goal.returns-in-Some-2
returns-in-Some-2 g c = record {
  decided = λ s shows.
      let call = c.args.call.now in
      let reply = c.in-Some-2.reply in
      let is : first_of (write_steps s call) ≡ Some reply = sym (c.in_ok-reply.ensures.write s shows.tree) ∙ c.in-Some-2.is in (
        place_answers s c.args.self.now.quota call c.refused_access.result reply (c.refused_access.ensures.access s shows.scopes) c.in_default.is
            (first_stays (write_steps s call) (condition_steps call (is_present s call) (path_version s call)) reply is),
        subst (λ o. IfSome o (λ one. record_of_call call one ≡ None)) c.in-Some-2.is c.in_ok-reply.ensures.plain,
      );
}

pub returns-in-Some-refused_condition : goal.returns-in-Some-refused_condition
returns-in-Some-refused_condition g c = record {
  decided = λ s shows.
      let call = c.args.call.now in
      let reply = c.in-Some-refused_condition.reply in
      let rest = condition_steps call (is_present s call) (path_version s call) in
      let none : first_of (write_steps s call) ≡ None =
      sym (c.in_ok-reply.ensures.write s shows.tree) ∙ none_unless c.in_ok-reply.field-0 c.in_default-2.not-Some in
      let is : first_of rest ≡ Some reply =
      sym (c.refused_condition.ensures.condition s (c.of-sight.ensures.sight s.contents shows.tree)) ∙ c.in-Some-refused_condition.is in (
        place_answers s c.args.self.now.quota call c.refused_access.result reply (c.refused_access.ensures.access s shows.scopes) c.in_default.is
            (first_goes_on (write_steps s call) rest none ∙ is),
        subst (λ o. IfSome o (λ one. record_of_call call one ≡ None)) c.in-Some-refused_condition.is c.refused_condition.ensures.plain,
      );
}
