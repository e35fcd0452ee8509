use Rattle.std.proofs.Common.{cond, [], ◌∷◌, ◌+◌, None, Some, ap, ◌∙◌, subst, arith, length-append}
use Rattle.std.specs.Str.{bytes_eq}
use Rattle.rs_path.specs.declared.log_entry.LogEntry.{LogEntry}
use Rattle.rs_record.specs.declared.records.Record.TheVariants.{Grant as GrantRecord}
use Rattle.rs_record.specs.declared.records.Record.{Record}
use Rattle.rs_rules.specs.Histories.{len}
use Rattle.rs_rules.specs.Tokens.{scopes_of}
use Rattle.rs_user.proofs.GrantLemmas.{scopes_back}
use Rattle.rs_user.proofs.StandingLemmas.{contents_granted}
use Rattle.rs_user.proofs.state.UserState.ungrant.Goals as goal

pub returns-clause-taken_back : goal.returns-clause-taken_back
returns-clause-taken_back g c h who scopes lawful none s =
    let token = c.args.token.now in
    let e : LogEntry Record = record { who = who; what = GrantRecord token scopes } in
    let more = length-append h.entries (e ∷ []) in
    record {
      shows = record {
        tree = subst (g.T.Tree.stands c.args.self.now.tree) (c.step_laws.ensures.contents h e ∙ contents_granted (len h + 1) h token scopes) s.shows.tree;
        scopes = λ other. c.withdraw.ensures.scopes other
            ∙ ap (cond (bytes_eq token other) None) (s.shows.scopes other ∙ c.step_laws.ensures.scopes h e other)
            ∙ scopes_back (scopes_of h) token other (Some scopes) none;
        len = omega (arith, s.shows.len, more);
      };
      lawful = lawful;
      cut = s.cut;
      rows = omega (arith, s.rows, more);
    }
