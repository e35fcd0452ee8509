use Rattle.std.proofs.Common.{rules, ◌∷◌, sym, ap, ◌∙◌, subst, Some}
use Rattle.atomic_table.specs.Table.{rest}
use Rattle.rs_turn.specs.declared.board.View.{View}
use Rattle.rs_turn.specs.Origins.{StandsFrom}
use Rattle.rs_turn.proofs.Turning.{passes}
use Rattle.rs_turn.proofs.steps.pass.Goals as goal

pub swap-requires : goal.swap-requires
swap-requires g c =
    let now = c.exchange-empty.ensures.3 in
    let held = c.requires.holds in
    let value = c.requires.value in (
      search rules,
      search rules,
      passes _ _ _ _ _ _ c.args.value (ap (λ m. m.0.stage) now ∙ held.1) (ap (λ m. m.1) now ∙ ap (λ cs. (0, Some c.args.value) ∷ rest cs) held.0)
          value.0 (ap (λ m. m.0.origin) now ∙ value.1)
          (subst (λ (v : View g.row.V-What.Denot g.row.V.Denot). StandsFrom g.V.Held.stands g.V.Held.basis value.0 c.args.value.value v.seen) (sym (ap (λ m. m.0) now)) value.2),
    )
