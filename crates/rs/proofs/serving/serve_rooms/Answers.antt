use Rattle.rs.proofs.StaffLemmas.{rooms_staffed}
use Rattle.rs.proofs.serving.serve_rooms.Goals as goal

pub run_serve-end-requires-clause-staffed : goal.run_serve-end-requires-clause-staffed
run_serve-end-requires-clause-staffed g c κs within = rooms_staffed _ _ _ _ c.args.config.now c.requires.config
    c.config_laws.ensures.rooms c.config_laws.ensures.one c.requires.keepers c.requires.posts
