use Rattle.std.proofs.Common.{◌≡◌, ◌<◌, refl, false, arith, rules}
use Rattle.std.specs.Prelude.{is_none}
use Rattle.rs_record.specs.declared.records.Record.TheVariants.{Revoke as RevokeRecord}
use Rattle.rs_rules.specs.declared.reply.Reply.TheVariants.{Revoked}
use Rattle.rs_rules.specs.declared.request.Request.TheVariants.{Revoke}
use Rattle.rs_rules.specs.Limits.{max_len}
use Rattle.rs_rules.specs.Histories.{len}
use Rattle.rs_rules.specs.Tokens.{scopes_of}
use Rattle.rs_user.proofs.MayLemmas.{revoked_answer, may_revoke}
use Rattle.rs_user.proofs.TurnLemmas.{kept_turns}
use Rattle.rs_user.proofs.state.UserState.revoke_from.Goals as goal

pub returns-clause-turned : goal.returns-clause-turned
returns-clause-turned g c h who s =
    let token = c.args.token.now in
    let few : len h < max_len = omega (arith, c.if-self-ge-MAX_LEN.false, s.shows.len) in
    let some : is_none (scopes_of h token) ≡ false = search rules in
    kept_turns g.T.Tree.stands c.keep_revoke.new.self h c.args.self.now.quota who (Revoke token) (RevokeRecord token) Revoked c.keep_revoke.result
    _ _ _ _ (revoked_answer h c.args.self.now.quota token few some) refl
    (c.keep_revoke.ensures.keeps h who s (may_revoke h token some) few)
