use Rattle.std.proofs.Common.{cond, Some, refl, sym, ap, ◌∙◌}
use Rattle.std.specs.Str.{bytes_eq}
use Rattle.std.proofs.lemmas.Result.{err_from_is_err_and}
use Rattle.rs_path.specs.declared.log_entry.LogEntry.{LogEntry}
use Rattle.rs_record.specs.declared.records.Record.TheVariants.{Grant as GrantRecord}
use Rattle.rs_record.specs.declared.records.Record.{Record}
use Rattle.rs_user.proofs.StandingLemmas.{tree_granted, stands_more}
use Rattle.rs_user.proofs.state.UserState.grant.Goals as goal

pub returns-clause-granted : goal.returns-clause-granted
returns-clause-granted g c h who s may room =
    let token = c.args.token in
    let scopes = c.args.scopes in
    let e : LogEntry Record = record { who = who; what = GrantRecord token scopes } in
    let lawful = c.lawful_laws.ensures.more h e s.lawful may room in
    stands_more g.T.Tree.stands c.args.self.now _ h e s lawful
    (tree_granted g.T.Tree.stands c.args.self.now.tree h who token scopes (c.step_laws.ensures.contents h e) s.shows.tree)
    (λ other. c.in_ok-add.ensures.scopes other
    ∙ ap (cond (bytes_eq token other) (Some scopes)) (s.shows.scopes other)
    ∙ sym (c.step_laws.ensures.scopes h e other))
    refl refl refl

pub returns-in_err-add-clause-same : goal.returns-in_err-add-clause-same
returns-in_err-add-clause-same g c =
    let p = err_from_is_err_and c.from_residual.result c.from_residual.ensures.1 in
    rw p.1
    (λ h s. record {
      shows = record { tree = s.shows.tree; scopes = λ other. c.in_err-add.ensures.same other ∙ s.shows.scopes other; len = s.shows.len };
      lawful = s.lawful;
      cut = s.cut;
      rows = s.rows;
    })
