-- A child on the way is the next front's node.
use Rattle.std.proofs.Common.{◌≡◌, ◌<◌, ℕ, ◌+◌, ◌||◌, Bool, not, List, [], length, get_or, drop, Option, Some, None, sym, ap, ◌∙◌, subst}
use Rattle.rs_path.specs.declared.child.Child.{Child}
use Rattle.rs_chain.specs.Walks.{child_in, step_at}
use Rattle.rs_chain.proofs.WalkLemmas.{child_in_live, way_goes, front_goes, step_is}
use Rattle.rs_chain.proofs.walk.deepest.Goals as goal

pub loop-depth-preserved : goal.loop-depth-preserved
loop-depth-preserved c =
    let s = c.args.nodes.now in
    let p = c.args.path.now in
    let depth : ℕ = c.loop-depth.depth in
    let within : depth < length p.names = subst (λ (ns : List (List ℕ)). depth < length ns) c.names-names.ensures.names c.loop-depth-test.true in
    let step : record { name = c.index-names-depth.result; folder = c.leads_on.result } ≡ step_at p depth =
    step_is p depth c.names-names.result.now c.index-names-depth.result c.leads_on.result c.names-names.ensures.names c.loop-depth-test.true c.index-names-depth.is c.leads_on.ensures.on in
    let found : child_in s c.loop-depth.key (step_at p depth) ≡ Some c.in-Some.child = ap (child_in s c.loop-depth.key) (sym step) ∙ sym c.in-Some.ensures.child in
    record {
      front = front_goes s c.args.root c.loop-depth.key c.in-Some.child p depth within c.loop-depth.invariant.front found;
      there = child_in_live s c.args.root c.loop-depth.key c.in-Some.child (step_at p depth) c.requires.listed found;
      rest = c.loop-depth.invariant.rest ∙ way_goes s c.loop-depth.key c.in-Some.child p depth within found;
    }
