use Rattle.std.proofs.Common.{cond, None, refl, sym, ap, ◌∙◌}
use Rattle.std.specs.Str.{bytes_eq}
use Rattle.rs_path.specs.declared.log_entry.LogEntry.{LogEntry}
use Rattle.rs_record.specs.declared.records.Record.TheVariants.{Revoke as RevokeRecord}
use Rattle.rs_record.specs.declared.records.Record.{Record}
use Rattle.rs_user.proofs.StandingLemmas.{tree_revoked, stands_more}
use Rattle.rs_user.proofs.state.UserState.revoke.Goals as goal

pub returns-clause-revoked : goal.returns-clause-revoked
returns-clause-revoked g c h who s may room =
    let from = c.args.token.now in
    let e : LogEntry Record = record { who = who; what = RevokeRecord from } in
    let lawful = c.lawful_laws.ensures.more h e s.lawful may room in
    stands_more g.T.Tree.stands c.args.self.now _ h e s lawful
    (tree_revoked g.T.Tree.stands c.args.self.now.tree h who from (c.step_laws.ensures.contents h e) s.shows.tree)
    (λ token. c.withdraw.ensures.scopes token
    ∙ ap (cond (bytes_eq from token) None) (s.shows.scopes token)
    ∙ sym (c.step_laws.ensures.scopes h e token))
    refl refl refl
