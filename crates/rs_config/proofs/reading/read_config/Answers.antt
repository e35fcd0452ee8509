use Rattle.toml.specs.View.{table_view}
use Rattle.rs_config.proofs.SettingLemmas.{reads_from}
use Rattle.rs_config.proofs.reading.read_config.Goals as goal

pub returns-in-Ok : goal.returns-in-Ok
returns-in-Ok c = record {
  read = reads_from c.args.text.now (table_view c.in-Ok.table) c.config_of.result
      (record { utf8 = c.in-Ok.ensures.ok.0; parsed = c.in-Ok.ensures.ok.1 }) c.config_of.ensures.configured;
  config = c.config_of.ensures.config;
}
