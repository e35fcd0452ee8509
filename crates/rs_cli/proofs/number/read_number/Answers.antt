use Rattle.std.proofs.Common.{sym, ap, ◌∙◌}
use Rattle.rs_cli.specs.Numbers.{is_numeral}
use Rattle.rs_cli.proofs.NumberLemmas.{too_large}
use Rattle.rs_cli.proofs.number.read_number.Goals as goal

pub returns-in-Err : goal.returns-in-Err
returns-in-Err c = record {
  number = sym (too_large c.args.word.now c.parse.result _ c.in-Err.is c.parse.ensures.value.0
      (sym (ap is_numeral c.as_bytes.ensures.value) ∙ sym c.is_numeral.ensures.numeral ∙ c.if-not-is_numeral.false));
}
