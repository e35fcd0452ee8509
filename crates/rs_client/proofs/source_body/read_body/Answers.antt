use Rattle.std.proofs.Common.{◌≡◌, ◌-◌, ◌<◌, ℕ, List, Result, Ok, length, sym, ap, ◌∙◌, subst, arith, length-append}
use Rattle.rs_face.specs.Courses.{course}
use Rattle.rs_client.specs.declared.source_body.Filled.{Filled}
use Rattle.rs_client.specs.Reading.{FillsBody, HasRead, ReadsBody}
use Rattle.rs_client.proofs.AddingLemmas.{told_as}
use Rattle.rs_client.proofs.ReadingLemmas.{end_unless, reads_none, reads_more, reads_whole, reads_not}
use Rattle.rs_client.proofs.source_body.read_body.Goals as goal

pub loop-body-init : goal.loop-body-init
loop-body-init g c =
    subst (λ (items : List ℕ). HasRead items (course g.S.Source.left g.S.Source.faults c.args.source.now c.args.source.now)) (sym c.new-body.ensures.items)
    (reads_none g.S.Source.left g.S.Source.faults c.args.source.now c.args.source.now c.args.source.now)

pub fill-requires : goal.fill-requires
fill-requires g c = record { short = c.loop-body.invariant.short }

pub returns-in_err-fill : goal.returns-in_err-fill
returns-in_err-fill g c = record {
  body = reads_not g.S.Source.left g.S.Source.faults c.args.source.now c.loop-body.source c.fill.new.source c.loop-body.body.items c.fill.new.body.items c.in_err-fill.field-0.0
      c.from_residual.result (told_as _ _ c.from_residual.ensures.1) c.loop-body.invariant c.in_err-fill.ensures.fills;
}

pub loop-body-smaller : goal.loop-body-smaller
loop-body-smaller g c =
    let fills = subst (λ (f : Filled). FillsBody c.loop-body.body.items c.fill.new.body.items (course g.S.Source.left g.S.Source.faults c.loop-body.source c.fill.new.source) (Ok f)) c.in-More.is c.in_ok-fill.ensures.fills in
    let some = fills.fills.some in
    let short = fills.fills.short in
    let sum = ap length fills.fills.behind ∙ length-append c.loop-body.body.items fills.fills.piece in
    omega (arith, some, short, sum)

pub loop-body-preserved : goal.loop-body-preserved
loop-body-preserved g c =
    reads_more g.S.Source.left g.S.Source.faults c.args.source.now c.loop-body.source c.fill.new.source c.loop-body.body.items c.fill.new.body.items c.loop-body.invariant
    (subst (λ (f : Filled). FillsBody c.loop-body.body.items c.fill.new.body.items (course g.S.Source.left g.S.Source.faults c.loop-body.source c.fill.new.source) (Ok f)) c.in-More.is c.in_ok-fill.ensures.fills)

pub returns : goal.returns
returns g c = record {
  body = subst (λ (b : List ℕ). ReadsBody (course g.S.Source.left g.S.Source.faults c.args.source.now c.fill.new.source) (Ok b)) (sym (c.shared.ensures.same ∙ c.of.ensures.bytes))
      (reads_whole g.S.Source.left g.S.Source.faults c.args.source.now c.loop-body.source c.fill.new.source c.loop-body.body.items c.fill.new.body.items c.loop-body.invariant
      (subst (λ (f : Filled). FillsBody c.loop-body.body.items c.fill.new.body.items (course g.S.Source.left g.S.Source.faults c.loop-body.source c.fill.new.source) (Ok f))
      (end_unless c.in_ok-fill.field-0 c.in_default.not-More) c.in_ok-fill.ensures.fills));
}
