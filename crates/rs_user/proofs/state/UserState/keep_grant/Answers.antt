use Rattle.std.proofs.Common.{refl}
use Rattle.rs_record.specs.declared.records.Record.TheVariants.{Grant as GrantRecord}
use Rattle.rs_rules.specs.declared.reply.Reply.TheVariants.{Granted}
use Rattle.rs_user.proofs.TurnLemmas.{not_kept}
use Rattle.rs_user.proofs.state.UserState.keep_grant.Goals as goal

pub returns-in-Err-clause-keeps : goal.returns-in-Err-clause-keeps
returns-in-Err-clause-keeps g c h who s may few =
    let token = c.args.token.now in
    let scopes = c.args.scopes.now in
    let granted = c.in_ok-grant.ensures.granted h who s may few in
    not_kept g.T.Tree.stands c.in-Err.fault c.append.result c.not_kept.result c.ungrant.new.self h who (GrantRecord token scopes) Granted
    _ _ _ _ c.in-Err.is c.not_kept.ensures.told (c.ungrant.ensures.taken_back h who c.in_ok-copy.field-0 s.lawful may granted) c.in-Err.ensures.err c.append.ensures.cause
