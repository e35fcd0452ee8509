-- Each level is one step; there are at most as many as names of a path.
use Rattle.std.proofs.Common.{◌≡◌, ℕ, ◌≤◌, List, length, Some, None, arith, sym, ap, ◌∙◌, subst}
use Rattle.rs_chain.specs.Nodes.{node_parent}
use Rattle.rs_chain.proofs.ClimbLemmas.{Climbing, climbs_same, climb_begins, climb_goes, climb_stops, climb_full}
use Rattle.rs_chain.proofs.climb.climb.Goals as goal

pub loop-level-init : goal.loop-level-init
loop-level-init g c order above linked climbs =
    climb_begins c.args.nodes.now c.visit.new.nodes order c.args.from above c.args.n c.args.steps.now c.visit.new.steps linked climbs c.requires.there
    c.visit.ensures.next c.visit.ensures.prev c.visit.ensures.first c.visit.ensures.number c.visit.ensures.rest c.visit.ensures.step

pub node_parent-requires : goal.node_parent-requires
node_parent-requires g c = let way = c.requires.way in record { there = (c.loop-level.invariant way.0 way.1 way.2 way.3).there }

pub lift-requires : goal.lift-requires
lift-requires g c =
    let way = c.requires.way in
    let so_far = c.loop-level.invariant way.0 way.1 way.2 way.3 in
    record { linked = (so_far.ring, so_far.linked); child = sym c.in-Some.ensures.parent }

pub loop-level-preserved : goal.loop-level-preserved
loop-level-preserved g c order above linked climbs =
    climb_goes c.args.nodes.now c.loop-level.nodes c.lift.new.nodes order c.args.from above c.loop-level.at c.args.n c.args.steps.now c.loop-level.steps c.lift.new.steps c.loop-level._level c.in-Some.folder
    (sym c.in-Some.ensures.parent) c.lift.ensures.linked c.lift.ensures.number c.lift.ensures.rest c.lift.ensures.step (c.loop-level.invariant order above linked climbs)

pub returns-in-None : goal.returns-in-None
returns-in-None g c = record {
  climbed = λ order above linked climbs.
      climb_stops c.args.nodes.now c.loop-level.nodes order c.args.from above c.loop-level.at c.args.n c.args.steps.now c.loop-level.steps c.loop-level._level (sym c.in-None.ensures.parent)
      (c.loop-level.invariant order above linked climbs);
}

pub returns : goal.returns
returns g c = record {
  climbed = λ order above linked climbs.
      let way = c.requires.way in
      let same : above ≡ way.1 = climbs_same (node_parent c.args.nodes.now) c.args.from above way.1 climbs way.3 in
      let few : length above ≤ 32 = subst (λ (fs : List ℕ). length fs ≤ 32) (sym same) way.4 in
      climb_full c.args.nodes.now c.loop-level.nodes order c.args.from above c.loop-level.at c.args.n c.args.steps.now c.loop-level.steps c.loop-level._level (omega arith)
      (c.loop-level.invariant order above linked climbs);
}
