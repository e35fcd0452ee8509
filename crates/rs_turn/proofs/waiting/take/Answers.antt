use Rattle.std.proofs.Common.{rules, ◌∷◌, sym, ap, ◌∙◌, Some}
use Rattle.atomic_table.specs.Table.{rest}
use Rattle.rs_turn.proofs.waiting.take.Goals as goal

pub exchange-requires : goal.exchange-requires
exchange-requires g c = let took = c.wait.ensures.taken in (search rules, (Some took.0, took.3 ∙ ap (λ cs. (0, Some took.0) ∷ rest cs) (sym took.3)))
