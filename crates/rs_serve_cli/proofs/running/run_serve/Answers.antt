use Rattle.rs_serve_cli.proofs.running.run_serve.Goals as goal

pub serve_file-requires-clause-staffed : goal.serve_file-requires-clause-staffed
serve_file-requires-clause-staffed g c κs within = λ config reads. c.requires.staffed c.in-Ok.ensures.takes.0 config c.in-Ok.ensures.takes.1 reads
