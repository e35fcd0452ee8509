use Rattle.rs_config.proofs.LawLemmas.{rooms_law, few_law, one_law, refused_law, words_law}
use Rattle.rs_config.proofs.laws.config_laws.Goals as goal

pub returns : goal.returns
returns c = record { rooms = rooms_law; few = few_law; one = one_law; refused = refused_law; words = words_law }
