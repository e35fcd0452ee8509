use Rattle.std.proofs.Common.{inr, ◌∙◌}
use Rattle.std.proofs.lemmas.Result.{err_from_is_err_and}
use Rattle.rs_rules.specs.declared.request.Request.TheVariants.{Grant}
use Rattle.rs_cli.proofs.GrantLemmas.{fails_since}
use Rattle.rs_cli.proofs.granting.grant_token.Goals as goal

pub returns-in_err-ask : goal.returns-in_err-ask
returns-in_err-ask g c =
    let opens = c.in_ok-state.ensures.opened in
    let asked = c.in_err-ask.ensures.asked opens.history opens.stands in
    let p = err_from_is_err_and c.from_residual-in_err-ask.result c.from_residual-in_err-ask.ensures.1 in
    record {
      granted = rw p.1 (
        asked.0 ∙ c.in_ok-state.ensures.rows,
        inr (inr record {
          history = opens.history;
          spelled = opens.spelled;
          token = c.in_ok-token.token;
          draws = c.in_ok-token.ensures.drawn;
          refused = record {
            fault = c.in_err-ask.field-0.0;
            fails = fails_since g.K.Keeper.rows g.K.Keeper.faults c.args.keeper.now c.open_rows.new.keeper c.ask.new.keeper opens.history
                (Grant c.in_ok-token.token c.args.scopes) c.in_ok-token.token c.in_err-ask.field-0.0 c.in_ok-state.ensures.later asked.1;
            said = p.2;
          };
        }),
      );
    }
