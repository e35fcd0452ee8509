use Rattle.std.proofs.Common.{subst, sym}
use Rattle.rs_exchange.specs.Accounts.{IsAccount}
use Rattle.rs_exchange.specs.Asking.{AsksOf, AsksShort}
use Rattle.rs_exchange.specs.Targets.{line_seen}
use Rattle.rs_front.proofs.SettleLemmas.{line_is, manner_is, asked_is, settles_as, replies_made, replies_starved}
use Rattle.rs_front.proofs.settling.reply_to.Goals as goal

pub settle-requires-clause-user : goal.settle-requires-clause-user
settle-requires-clause-user g c =
    let line = (line_is c.args.config.now c.args.message c.as_slice.result.now c.as_slice-2.result.now (line_seen c.read_line-line.result) c.read_line-line.ensures.line c.as_slice.ensures.bytes c.as_slice-2.ensures.bytes) in
    subst (AsksOf (IsAccount c.args.config.now.accounts)) (sym (asked_is c.args.config.now c.args.message _ _ c.as_slice-3.ensures.fields line))
    (c.asked_laws.ensures.user c.args.config.now c.args.message)

pub settle-requires-clause-short : goal.settle-requires-clause-short
settle-requires-clause-short g c =
    let line = (line_is c.args.config.now c.args.message c.as_slice.result.now c.as_slice-2.result.now (line_seen c.read_line-line.result) c.read_line-line.ensures.line c.as_slice.ensures.bytes c.as_slice-2.ensures.bytes) in
    subst AsksShort (sym (asked_is c.args.config.now c.args.message _ _ c.as_slice-3.ensures.fields line))
    (c.asked_laws.ensures.short c.args.config.now c.args.message c.requires.short)

pub returns-in-Ok-clause-replies : goal.returns-in-Ok-clause-replies
returns-in-Ok-clause-replies g c old stands =
    let settled = c.in-Ok.ensures.settles old stands in
    let line = (line_is c.args.config.now c.args.message c.as_slice.result.now c.as_slice-2.result.now (line_seen c.read_line-line.result) c.read_line-line.ensures.line c.as_slice.ensures.bytes c.as_slice-2.ensures.bytes) in
    let asked = asked_is c.args.config.now c.args.message _ _ c.as_slice-3.ensures.fields line in (
      settled.0,
      settled.1,
      replies_made _ _ c.args.count c.args.message old _ _ _ _ c.manner_of-manner.result c.in-Ok.written c.send.result
          (manner_is c.args.config.now c.args.count c.args.message _ _ line c.manner_of-manner.ensures.manner)
          (settles_as _ c.manner_of-manner.result _ _ old _ _ _ _ asked settled.2) _ _ c.as_slice-in-Ok.ensures.value c.as_slice-in-Ok-2.ensures.bytes c.send.ensures.writes,
    )

pub returns-clause-replies : goal.returns-clause-replies
returns-clause-replies g c old stands =
    let settled = c.in-Err.ensures.settles old stands in
    let line = (line_is c.args.config.now c.args.message c.as_slice.result.now c.as_slice-2.result.now (line_seen c.read_line-line.result) c.read_line-line.ensures.line c.as_slice.ensures.bytes c.as_slice-2.ensures.bytes) in
    let asked = asked_is c.args.config.now c.args.message _ _ c.as_slice-3.ensures.fields line in (
      settled.0,
      settled.1,
      replies_starved _ _ c.args.count c.args.message old _ _ _ _ c.manner_of-manner.result _ c.send_fixed.result
          (manner_is c.args.config.now c.args.count c.args.message _ _ line c.manner_of-manner.ensures.manner)
          (settles_as _ c.manner_of-manner.result _ _ old _ _ _ _ asked settled.2) _ c.starved_lines.ensures.lines c.send_fixed.ensures.writes,
    )
