use Rattle.std.proofs.Common.{[], sym, ap, ◌∙◌}
use Rattle.rs_rules.specs.Clashes.{first_front, is_full}
use Rattle.rs_plain.proofs.FrontLemmas.{front_here, front_past}
use Rattle.rs_plain.proofs.full.full_in.Goals as goal

-- src/full.rt:25:13
pub returns-then-is_full : goal.returns-then-is_full
returns-then-is_full c =
    let docs = c.args.docs.now in
    let path = c.args.path.now in
    let names = c.names-names.result.now in
    record {
      full = λ distinct. sym
          (ap (first_front (is_full docs path) []) (sym c.names-names.ensures.names) ∙ c.loop-depth.invariant distinct
          ∙ front_here (is_full docs path) names c.loop-depth.depth c.loop-depth-test.true (sym (c.is_full.ensures.full distinct) ∙ c.if-is_full.true));
    }

-- src/full.rt:23:5
pub loop-depth-preserved : goal.loop-depth-preserved
loop-depth-preserved c =
    let docs = c.args.docs.now in
    let path = c.args.path.now in
    let names = c.names-names.result.now in
    λ distinct. c.loop-depth.invariant distinct
    ∙ front_past (is_full docs path) names c.loop-depth.depth c.loop-depth-test.true (sym (c.is_full.ensures.full distinct) ∙ c.if-is_full.false)
