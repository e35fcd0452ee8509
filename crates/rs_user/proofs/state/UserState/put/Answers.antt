use Rattle.std.proofs.Common.{refl, sym, ◌∙◌}
use Rattle.rs_path.specs.declared.log_entry.LogEntry.{LogEntry}
use Rattle.rs_record.specs.declared.records.Record.TheVariants.{Put as PutRecord}
use Rattle.rs_record.specs.declared.records.Record.{Record}
use Rattle.rs_rules.specs.Contents.{contents}
use Rattle.rs_user.proofs.StandingLemmas.{tree_more, stands_more}
use Rattle.rs_user.proofs.state.UserState.put.Goals as goal

pub returns-clause-put : goal.returns-clause-put
returns-clause-put g c h who path kind body writer s ready may room =
    let e : LogEntry Record = record { who = who; what = PutRecord path kind body writer } in
    let lawful = c.lawful_laws.ensures.more h e s.lawful may room in
    let written = c.put.ensures.put (contents h) path kind body writer s.shows.tree ready in
    stands_more g.T.Tree.stands c.args.self.now _ h e s lawful
    (tree_more g.T.Tree.stands _ c.args.self.now.len h e s.shows.len (c.step_laws.ensures.contents h e) written)
    (λ token. s.shows.scopes token ∙ sym (c.step_laws.ensures.scopes h e token))
    refl refl refl
