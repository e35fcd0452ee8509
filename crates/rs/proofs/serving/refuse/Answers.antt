use Rattle.rs.proofs.StaffLemmas.{refused_staffed}
use Rattle.rs.proofs.serving.refuse.Goals as goal

pub run_serve-requires-clause-staffed : goal.run_serve-requires-clause-staffed
run_serve-requires-clause-staffed g c κs within = refused_staffed _ _ _ _ c.requires.refused
