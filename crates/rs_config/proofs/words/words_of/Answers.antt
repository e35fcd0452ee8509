use Rattle.std.proofs.Common.{◌∙◌, codes, sym}
use Rattle.clap.specs.Words.{found_of}
use Rattle.clap.proofs.WalkLemmas.{first_value-rows, one_text-rows}
use Rattle.rs_config.proofs.words.words_of.Goals as goal

pub returns : goal.returns
returns c =
    let found = found_of c.args.matches.now in
    let workers = c.workers_of.ensures.workers in
    record {
      words = record {
        config = sym (first_value-rows found (codes "config")) ∙ c.in_ok-config_of.ensures.config;
        text = workers.0;
        given = sym (one_text-rows found (codes "workers")) ∙ workers.1;
        workers = workers.2;
      };
    }
