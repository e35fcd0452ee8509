-- The steps begin at none.
use Rattle.std.proofs.Common.{◌≡◌, ℕ, subst}
use Rattle.rs_chain.specs.Climbs.{Climbed}
use Rattle.rs_chain.proofs.writes.counted.Goals as goal

pub returns : goal.returns
returns g c = record {
  raised = λ order above linked climbs. (
    c.climb.new.steps,
    subst (λ (before : ℕ). Climbed c.args.nodes.now c.climb.new.nodes order c.args.key above c.args.n before c.climb.new.steps) c.of-steps.ensures.none
        (c.climb.ensures.climbed order above linked climbs),
  );
}
