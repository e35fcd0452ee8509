use Rattle.std.proofs.Common.{inl}
use Rattle.rs_serve_cli.proofs.running.serve_file.Goals as goal

pub serve_config-requires-clause-rooms : goal.serve_config-requires-clause-rooms
serve_config-requires-clause-rooms g c κs within = c.config_laws.ensures.rooms c.args.text.now c.in-Ok.config c.in-Ok.ensures.read

pub serve_config-requires-clause-few : goal.serve_config-requires-clause-few
serve_config-requires-clause-few g c κs within = c.config_laws.ensures.few c.args.text.now c.in-Ok.config c.in-Ok.ensures.read

pub returns-in-Ok-clause-serves : goal.returns-in-Ok-clause-serves
returns-in-Ok-clause-serves g c = inl (c.in-Ok.config, c.in-Ok.ensures.read, c.serve_config.ensures.serves)
