use Rattle.std.proofs.Common.{◌≡◌, ◌+◌, ◌++◌, length, IfSome, arith, sym, ap, ◌∙◌, subst}
use Rattle.rs_face.specs.Rows.{IsRun}
use Rattle.rs_row.specs.RowOpenings.{texts_of}
use Rattle.rs_row.proofs.OpeningLemmas.{IsTakenSoFar, taken_more, refused_now}
use Rattle.rs_row.proofs.opening.open_rows.Goals as goal

pub returns-in-Err-clause-opened : goal.returns-in-Err-clause-opened
returns-in-Err-clause-opened g c =
    let at = c.loop-index.invariant in
    let told = g.K.Keeper.rows c.args.keeper.now in
    let run = c.as_slice.result.now in
    let found : IfSome told (λ kept. IsRun kept c.loop-index.index run) =
    subst (λ rows. IfSome rows (λ kept. IsRun kept c.loop-index.index run)) at.3
    (subst (λ items. IfSome (g.K.Keeper.rows c.loop-index.keeper) (λ kept. IsRun kept c.loop-index.index items)) (sym c.as_slice.ensures.value) c.in-Ok.ensures.ok) in
    refused_now g.S.Replayed.refusal g.S.Replayed.made_of c.loop-index.state c.take_run.new.state at.0 told c.loop-index.index run c.in-Err.fault
    at.1 found (c.in-Err.ensures.taken at.0 at.1.made at.1.count)

pub loop-index-preserved : goal.loop-index-preserved
loop-index-preserved g c =
    let at = c.loop-index.invariant in
    let told = g.K.Keeper.rows c.args.keeper.now in
    let run = c.as_slice.result.now in
    let found : IfSome told (λ kept. IsRun kept c.loop-index.index run) =
    subst (λ rows. IfSome rows (λ kept. IsRun kept c.loop-index.index run)) at.3
    (subst (λ items. IfSome (g.K.Keeper.rows c.loop-index.keeper) (λ kept. IsRun kept c.loop-index.index items)) (sym c.as_slice.ensures.value) c.in-Ok.ensures.ok) in
    let taken = c.in-Ok-take_run.ensures.taken at.0 at.1.made at.1.count in
    let items = ap length c.as_slice.ensures.value in
    let count : length run ≡ c.len-in-loop-index.result = c.as_slice.ensures.len ∙ sym c.len-in-loop-index.ensures in (
      at.0 ++ texts_of run,
      subst (λ n. IsTakenSoFar g.S.Replayed.refusal g.S.Replayed.made_of c.take_run.new.state (at.0 ++ texts_of run) told (c.loop-index.index + n)) count
          (taken_more g.S.Replayed.refusal g.S.Replayed.made_of c.loop-index.state c.take_run.new.state at.0 told c.loop-index.index run at.1 found taken.0 taken.1),
      omega (arith, c.in-Ok.ensures.within, at.4, items, count),
      c.read_run.ensures.rows ∙ at.3,
      c.read_run.ensures.len ∙ at.4,
      omega (arith, at.5, c.read_run.ensures.cause.later),
      c.in-Ok-take_run.ensures.setting ∙ at.6,
    )
