use Rattle.std.proofs.Common.{sym, ◌∙◌}
use Rattle.rs_finger.proofs.AnswerLemmas.{wanted_alone, wanted_among}
use Rattle.rs_finger.proofs.answering.is_wanted.Goals as goal

pub returns-then-is_empty : goal.returns-then-is_empty
returns-then-is_empty c = c.if-is_empty.true ∙ wanted_alone c.args.rels.now (sym c.is_empty.ensures ∙ c.if-is_empty.true)

pub returns-else-is_empty : goal.returns-else-is_empty
returns-else-is_empty c = c.has_text.ensures ∙ wanted_among c.args.rels.now (sym c.is_empty.ensures ∙ c.if-is_empty.false)
