use Rattle.std.proofs.Common.{map, string_bytes, subst, sym, Err}
use Rattle.clap.specs.Words.{kind_of}
use Rattle.rs_config.specs.declared.words.ServeFault.{ServeFault}
use Rattle.rs_config.specs.ServeWordings.{ReadsServe}
use Rattle.rs_config.proofs.ServeLemmas.{words_refused}
use Rattle.rs_config.proofs.words.read_serve.Goals as goal

pub returns-in-Err : goal.returns-in-Err
returns-in-Err c =
    let words = map string_bytes c.args.words.now in
    record {
      read = subst (λ (f : ServeFault). ReadsServe words (Err f)) (sym c.fault_of.ensures.fault)
          (words_refused words (kind_of c.in-Err.error) c.in-Err.ensures.passes c.in-Err.ensures.kinds);
    }
