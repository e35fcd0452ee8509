use Rattle.std.proofs.Common.{ap, length, ℕ, List, ◌++◌, ◌∙◌, arith}
use Rattle.rs_exchange.specs.Lines.{first_lines}
use Rattle.rs_exchange.specs.Outlines.{own_fields}
use Rattle.rs_exchange.proofs.RoomLemmas.{too_long_first, too_long_last, on_err}
use Rattle.rs_exchange.proofs.reply.head_of.Goals as goal

pub returns-in_err-put_first_lines-clause-made : goal.returns-in_err-put_first_lines-clause-made
returns-in_err-put_first_lines-clause-made c = on_err c.from_residual.result
    (too_long_first c.args.manner.shared c.outline_of-outline.result.status c.outline_of-outline.result.fields c.args.answer.now _ _ c.requires.enough
    (ap (λ (l : List ℕ). length l) c.requires.empty) c.outline_of-outline.ensures.content c.outline_of-outline.ensures.short
    c.in_err-put_first_lines.ensures.full)

pub returns-in_err-put_last_lines-clause-made : goal.returns-in_err-put_last_lines-clause-made
returns-in_err-put_last_lines-clause-made c = on_err c.from_residual-in_err-put_last_lines.result
    (too_long_last c.args.manner.shared c.args.manner.closing c.outline_of-outline.result.status c.args.size c.outline_of-outline.result.fields c.args.answer.now _ _
    (let room = c.requires.enough in let kept = c.in_ok-put_first_lines.ensures.capacity in omega (arith, room, kept))
    (ap (λ (l : List ℕ). length l) (c.in_ok-put_first_lines.ensures.put
    ∙ ap (λ (l : List ℕ). l ++ first_lines c.args.manner.shared c.outline_of-outline.result.status (own_fields c.outline_of-outline.result.fields)) c.requires.empty))
    c.outline_of-outline.ensures.content c.outline_of-outline.ensures.short c.requires.size c.in_err-put_last_lines.ensures.full)
