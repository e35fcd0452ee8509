use Rattle.std.proofs.Common.{◌≡◌, ◌<◌, refl, false, arith, rules}
use Rattle.std.specs.Prelude.{is_some}
use Rattle.rs_record.specs.declared.records.Record.TheVariants.{Grant as GrantRecord}
use Rattle.rs_rules.specs.declared.reply.Reply.TheVariants.{Granted}
use Rattle.rs_rules.specs.declared.request.Request.TheVariants.{Grant}
use Rattle.rs_rules.specs.Limits.{max_len}
use Rattle.rs_rules.specs.Histories.{len}
use Rattle.rs_rules.specs.Tokens.{scopes_of}
use Rattle.rs_user.proofs.MayLemmas.{granted_answer, may_grant}
use Rattle.rs_user.proofs.TurnLemmas.{kept_turns}
use Rattle.rs_user.proofs.state.UserState.grant_to.Goals as goal

pub returns-clause-turned : goal.returns-clause-turned
returns-clause-turned g c h who s =
    let token = c.args.token.now in
    let scopes = c.args.scopes.now in
    let few : len h < max_len = omega (arith, c.if-self-ge-MAX_LEN.false, s.shows.len) in
    let none : is_some (scopes_of h token) ≡ false = search rules in
    kept_turns g.T.Tree.stands c.keep_grant.new.self h c.args.self.now.quota who (Grant token scopes) (GrantRecord token scopes) Granted c.keep_grant.result
    _ _ _ _ (granted_answer h c.args.self.now.quota token scopes few none) refl
    (c.keep_grant.ensures.keeps h who s (may_grant h token none) few)
